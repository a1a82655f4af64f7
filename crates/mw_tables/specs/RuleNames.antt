-- The names in a rule, resolved in a world's tables.
use Rattle.std.specs.Prelude.{ℕ, ◌+◌, not, List, [], ◌∷◌, ◌++◌, Bool, Option, option_map, Result, Ok, codes, map, length, slice_get}
use Rattle.mw_json.specs.Grammar.{Breach, ◌>>=◌, under}
use Rattle.mw_json.specs.declared.refusal.Kind.{Kind}
use Rattle.mw_json.specs.declared.refusal.Kind.TheVariants.{DuplicateName, RuleItemNotProgression}
use Rattle.mw_json.specs.declared.refusal.Step.TheVariants.{Name, Index}
use Rattle.mw_rules.specs.Rule as rule
use Rattle.mw_rules.specs.Rule.{Rule}
use Rattle.mw_rules.specs.Names.{is_among}
use Rattle.mw_rules.specs.View.{rules_of}
use Rattle.mw_multi.specs.Indexes.{index_of_name}
use Rattle.mw_multi.specs.World.{Item}
use Rattle.mw_multi.specs.WorldKept.{item_name}
use Rattle.mw_multi.specs.RulesKept.{is_progression_item}
use Rattle.mw_tables.specs.Names.{Check, demand, known}
use Rattle.mw_tables.specs.Raw.{RawLocation, RawWorld, RawRule, always, never, has, has_all, has_any, has_count, reach_region, reach_location, all_of, some_of, RawRules, no_rules, a_rule}

-- the region of a name
abbrev pub region_named : RawWorld → List ℕ → Result ℕ Breach
region_named w name = known (index_of_name w.regions name)

-- the item of a name
abbrev pub known_item : RawWorld → List ℕ → Result ℕ Breach
known_item w name = known (index_of_name (map item_name w.items) name)

-- an item that passes a test, else refused in this way
unfoldable pub item_such : (Option Item → Bool) → Kind → RawWorld → List ℕ → Result ℕ Breach
item_such test kind w name = do
  i ← known_item w name
  fits ← demand kind (test (slice_get w.items i))
  Ok i

-- a rule may ask for the item of this place
abbrev pub may_be_asked : RawWorld → ℕ → Check
may_be_asked w i = demand RuleItemNotProgression (is_progression_item (slice_get w.items i))

-- not one of these items
abbrev pub is_new : List ℕ → ℕ → Check
is_new before i = demand DuplicateName (not (is_among before i))

-- an item that a rule may ask for
abbrev pub rule_item : RawWorld → List ℕ → Result ℕ Breach
rule_item w name = item_such is_progression_item RuleItemNotProgression w name

-- the same in a list, after these items. A name that isn't there is refused where it first stands, so that it comes to
-- the same whether it is judged before or after whether it stands twice
unfoldable pub listed_item : RawWorld → List ℕ → List ℕ → Result ℕ Breach
listed_item w before name = do
  i ← known_item w name
  once ← is_new before i
  fits ← may_be_asked w i
  Ok i

abbrev pub listed_items : RawWorld → List ℕ → ℕ → List (List ℕ) → Result (List ℕ) Breach
listed_items w before i [] = Ok []
listed_items w before i (n ∷ ns) = do
  first ← under (Index i) (listed_item w before n)
  others ← listed_items w (before ++ first ∷ []) (i + 1) ns
  Ok (first ∷ others)

abbrev pub raw_location_name : RawLocation → List ℕ
raw_location_name l = l.name

-- a location's place comes after those of the regions
abbrev pub place_of_location : RawWorld → List ℕ → Option ℕ
place_of_location w name =
    option_map (λ i. length w.regions + i) (index_of_name (map raw_location_name w.locations) name)

unfoldable pub location_place : RawWorld → List ℕ → Result ℕ Breach
location_place w name = do
  i ← known (index_of_name (map raw_location_name w.locations) name)
  Ok (length w.regions + i)

abbrev mutual
  pub rule_named : RawWorld → RawRule → Result Rule Breach
  rule_named w always = Ok rule.always
  rule_named w never = Ok rule.never
  rule_named w (has n k) = under (Name (codes "has")) (rule_item w n) >>= (λ i. Ok (rule.has i k))
  rule_named w (has_all ns) = under (Name (codes "has_all")) (listed_items w [] 0 ns) >>=
      (λ is. Ok (rule.has_all is))
  rule_named w (has_any ns) = under (Name (codes "has_any")) (listed_items w [] 0 ns) >>=
      (λ is. Ok (rule.has_any is))
  rule_named w (has_count ns k) = under (Name (codes "count")) (listed_items w [] 0 ns) >>=
      (λ is. Ok (rule.has_count is k))
  rule_named w (reach_region n) = under (Name (codes "can_reach"))
      (under (Name (codes "region")) (region_named w n)) >>= (λ p. Ok (rule.can_reach p))
  rule_named w (reach_location n) = under (Name (codes "can_reach"))
      (under (Name (codes "location")) (location_place w n)) >>= (λ p. Ok (rule.can_reach p))
  rule_named w (all_of rs) = under (Name (codes "and")) (rules_named w 0 rs) >>=
      (λ named. Ok (rule.all_of (rules_of named)))
  rule_named w (some_of rs) = under (Name (codes "or")) (rules_named w 0 rs) >>=
      (λ named. Ok (rule.some_of (rules_of named)))

  pub rules_named : RawWorld → ℕ → RawRules → Result (List Rule) Breach
  rules_named w i no_rules = Ok []
  rules_named w i (a_rule r rs) = do
    first ← under (Index i) (rule_named w r)
    others ← rules_named w (i + 1) rs
    Ok (first ∷ others)

-- the rules under a name
abbrev pub rules_under : List ℕ → RawWorld → RawRules → Result (List Rule) Breach
rules_under name w rs = under (Name name) (rules_named w 0 rs)
