-- What a rule keeps whose names are resolved.
use Rattle.std.proofs.Common.{◌≡◌, ◌<◌, ◌≤◌, ℕ, suc, max, ◌+◌, ◌||◌, List, [], ◌∷◌, ◌++◌, length, map, Bool, true, false, Option, Some, None, All, refl, sym, ap, ap₂, ◌∙◌, subst, arith, append-nil}
use Rattle.std.specs.Prelude.{IfOk, IfSome, codes, slice_get, not, nat_eq}
use Rattle.std.specs.List.{IsDistinct, list_any}
use Rattle.std.proofs.lemmas.Cmp.{nat_eq_equiv}
use Rattle.std.proofs.lemmas.List.{length-map}
use Rattle.std.proofs.lemmas.List.Elements.{All-nil, All-cons, All-append}
use Rattle.std.proofs.lemmas.Map.Keys.{IsDistinct-push}
use Rattle.std.proofs.lemmas.Result.{IfOk-weaker}
use Rattle.mw_json.specs.Grammar.{under}
use Rattle.mw_json.specs.declared.refusal.Kind.{Kind}
use Rattle.mw_json.specs.declared.refusal.Kind.TheVariants.{DuplicateName, RuleItemNotProgression}
use Rattle.mw_json.specs.declared.refusal.Step.TheVariants.{Name, Index}
use Rattle.mw_rules.specs.Rule.{Rule, IsWithin, AreWithin}
use Rattle.mw_rules.specs.Names.{items_in, items_in_all, is_among}
use Rattle.mw_rules.specs.View as seen
use Rattle.mw_multi.specs.World.{Item}
use Rattle.mw_multi.specs.WorldKept.{item_name}
use Rattle.mw_multi.specs.RulesKept as whole
use Rattle.mw_multi.specs.RulesKept.{IsItemList, IsInLimits, is_progression_item, IsProgressionAt, RuleKept}
use Rattle.mw_multi.specs.Indexes.{index_of_name}
use Rattle.mw_tables.specs.Names.{demand, known}
use Rattle.mw_tables.specs.Raw.{RawWorld, RawRule, always, never, has, has_all, has_any, has_count, reach_region, reach_location, all_of, some_of, RawRules, no_rules, a_rule, nodes, nodes_of, depth, depth_of}
use Rattle.mw_tables.specs.RuleNames.{region_named, known_item, item_such, rule_item, listed_item, listed_items, raw_location_name, location_place, rule_named, rules_named}
use Rattle.mw_tables.proofs.Distinct.{regroup}
use Rattle.mw_multi.proofs.Indexing.{index_of_name-within}
use Rattle.mw_json.proofs.Passing.{after, within}
use Rattle.mw_tables.proofs.RawKept.{InLimits, AreInLimits, RawRuleKept}

-- how many places a world has
abbrev pub places : RawWorld → ℕ
places w = length w.regions + length w.locations

-- ---- names

known_within : (found : Option ℕ) (count : ℕ) → IfSome found (λ i. i < count) → IfOk (known found) (λ i. i < count)
known_within (Some i) count h = h
known_within None count h = tt

demanded : (kind : Kind) (holds : Bool) → IfOk (demand kind holds) (λ _. holds ≡ true)
demanded kind true = refl
demanded kind false = tt

pub region_within : (w : RawWorld) (name : List ℕ) → IfOk (region_named w name) (λ i. i < length w.regions)
region_within w name = known_within (index_of_name w.regions name) (length w.regions) (index_of_name-within w.regions name)

item_within : (w : RawWorld) (name : List ℕ) → IfOk (known_item w name) (λ i. i < length w.items)
item_within w name = subst (λ n. IfOk (known_item w name) (λ i. i < n)) (length-map w.items item_name) (known_within (index_of_name (map item_name w.items) name) (length (map item_name w.items)) (index_of_name-within (map item_name w.items) name))

-- an item that is there, and passes
abbrev pub Passes : (Option Item → Bool) → RawWorld → ℕ → Type 0
Passes test w i = (i < length w.items) × (test (slice_get w.items i) ≡ true)

pub such_passes : (test : Option Item → Bool) (kind : Kind) (w : RawWorld) (name : List ℕ) → IfOk (item_such test kind w name) (Passes test w)
unfolding item_such
such_passes test kind w name =
    after (λ i. i < length w.items) (Passes test w) (known_item w name) _ (item_within w name) (λ i h.
    after (λ _. test (slice_get w.items i) ≡ true) (Passes test w) (demand kind (test (slice_get w.items i))) _ (demanded kind (test (slice_get w.items i))) (λ fits k. (h, k)))

place_within : (w : RawWorld) (name : List ℕ) → IfOk (location_place w name) (λ p. p < places w)
unfolding location_place
place_within w name =
    after (λ i. i < length (map raw_location_name w.locations)) (λ p. p < places w) (known (index_of_name (map raw_location_name w.locations) name)) _
    (known_within (index_of_name (map raw_location_name w.locations) name) (length (map raw_location_name w.locations)) (index_of_name-within (map raw_location_name w.locations) name)) (λ i h.
    omega (arith, h, length-map w.locations raw_location_name))

-- ---- lists of items

turned : (i : ℕ) (ns : List ℕ) → list_any (λ m. nat_eq m i) ns ≡ list_any (nat_eq i) ns
turned i [] = refl
turned i (n ∷ ns) = ap₂ (λ a b. a || b) (nat_eq_equiv.symm n i) (turned i ns)

not_true : (b : Bool) → not b ≡ true → b ≡ false
not_true true h = sym h
not_true false h = refl

-- an item that passes, and isn't among those before it
record Listed (w : RawWorld) (before : List ℕ) (i : ℕ) : Type 0 where
  passes : Passes is_progression_item w i
  new : is_among before i ≡ false

listed_kept : (w : RawWorld) (before : List ℕ) (name : List ℕ) → IfOk (listed_item w before name) (Listed w before)
unfolding listed_item
listed_kept w before name =
    after (λ i. i < length w.items) (Listed w before) (known_item w name) _ (item_within w name) (λ i h.
    after (λ _. not (is_among before i) ≡ true) (Listed w before) (demand DuplicateName (not (is_among before i))) _ (demanded DuplicateName (not (is_among before i))) (λ once k.
    after (λ _. is_progression_item (slice_get w.items i) ≡ true) (Listed w before) (demand RuleItemNotProgression (is_progression_item (slice_get w.items i))) _ (demanded RuleItemNotProgression (is_progression_item (slice_get w.items i))) (λ fits l.
    record { passes = (h, l); new = not_true (is_among before i) k })))

record AreListed (w : RawWorld) (before : List ℕ) (count : ℕ) (is : List ℕ) : Type 0 where
  there : All (λ i. i < length w.items) is
  fit : All (IsProgressionAt w.items) is
  total : length is ≡ count
  once : IsDistinct nat_eq (before ++ is)

list_kept : (w : RawWorld) (before : List ℕ) (i : ℕ) (ns : List (List ℕ)) → IsDistinct nat_eq before → IfOk (listed_items w before i ns) (AreListed w before (length ns))
list_kept w before i [] d = record { there = All-nil (λ i. i < length w.items); fit = All-nil (IsProgressionAt w.items); total = refl; once = subst (IsDistinct nat_eq) (sym (append-nil before)) d }
list_kept w before i (n ∷ ns) d =
    after (Listed w before) (AreListed w before (length (n ∷ ns))) (under (Index i) (listed_item w before n)) _ (within (Listed w before) (Index i) (listed_item w before n) (listed_kept w before n)) (λ first h.
    after (AreListed w (before ++ first ∷ []) (length ns)) (AreListed w before (length (n ∷ ns))) (listed_items w (before ++ first ∷ []) (i + 1) ns) _
    (list_kept w (before ++ first ∷ []) (i + 1) ns (IsDistinct-push nat_eq_equiv before first d (sym (turned first before) ∙ h.new))) (λ others k.
    record {
      there = All-cons (λ i. i < length w.items) first others h.passes.0 k.there;
      fit = All-cons (IsProgressionAt w.items) first others h.passes.1 k.fit;
      total = omega (arith, k.total);
      once = subst (IsDistinct nat_eq) (sym (regroup before first others)) k.once;
    }))

-- ---- rules

pub record Resolved (w : RawWorld) (count deep : ℕ) (r : Rule) : Type 0 where
  pub within : IsWithin (length w.items) (places w) r
  pub progression : All (IsProgressionAt w.items) (items_in r)
  pub size : whole.nodes r ≡ count
  pub levels : whole.depth r ≡ deep
  pub limits : IsInLimits r

record AreResolved (w : RawWorld) (count deep : ℕ) (rs : List Rule) : Type 0 where
  within : AreWithin (length w.items) (places w) (seen.rules_of rs)
  progression : All (IsProgressionAt w.items) (items_in_all (seen.rules_of rs))
  size : whole.nodes_of (seen.rules_of rs) ≡ count
  levels : whole.depth_of (seen.rules_of rs) ≡ deep
  limits : whole.AreInLimits (seen.rules_of rs)

no_items_twice : IsDistinct nat_eq []
unfolding IsDistinct
no_items_twice = tt

listed_under : (w : RawWorld) (name : List ℕ) (ns : List (List ℕ)) → IfOk (under (Name name) (listed_items w [] 0 ns)) (AreListed w [] (length ns))
listed_under w name ns = within (AreListed w [] (length ns)) (Name name) (listed_items w [] 0 ns) (list_kept w [] 0 ns no_items_twice)

is_list : (w : RawWorld) (count : ℕ) (is : List ℕ) → count ≤ 64 → AreListed w [] count is → IsItemList is
is_list w count is short h = record { short = omega (arith, short, h.total); once = h.once }

mutual
  resolved : (w : RawWorld) (r : RawRule) → InLimits r → IfOk (rule_named w r) (Resolved w (nodes r) (depth r))
  resolved w always l = record { within = tt; progression = All-nil (IsProgressionAt w.items); size = refl; levels = refl; limits = tt }
  resolved w never l = record { within = tt; progression = All-nil (IsProgressionAt w.items); size = refl; levels = refl; limits = tt }
  resolved w (has n k) l =
      after (Passes is_progression_item w) (Resolved w 1 1) (under (Name (codes "has")) (rule_item w n)) _ (within (Passes is_progression_item w) (Name (codes "has")) (rule_item w n) (such_passes is_progression_item RuleItemNotProgression w n)) (λ i h.
      record { within = h.0; progression = All-cons (IsProgressionAt w.items) i [] h.1 (All-nil (IsProgressionAt w.items)); size = refl; levels = refl; limits = l })
  resolved w (has_all ns) l =
      after (AreListed w [] (length ns)) (Resolved w 1 1) (under (Name (codes "has_all")) (listed_items w [] 0 ns)) _ (listed_under w (codes "has_all") ns) (λ is h.
      record { within = h.there; progression = h.fit; size = refl; levels = refl; limits = is_list w (length ns) is l h })
  resolved w (has_any ns) l =
      after (AreListed w [] (length ns)) (Resolved w 1 1) (under (Name (codes "has_any")) (listed_items w [] 0 ns)) _ (listed_under w (codes "has_any") ns) (λ is h.
      record { within = h.there; progression = h.fit; size = refl; levels = refl; limits = is_list w (length ns) is l h })
  resolved w (has_count ns k) l =
      after (AreListed w [] (length ns)) (Resolved w 1 1) (under (Name (codes "count")) (listed_items w [] 0 ns)) _ (listed_under w (codes "count") ns) (λ is h.
      record { within = h.there; progression = h.fit; size = refl; levels = refl; limits = (is_list w (length ns) is l.0 h, l.1) })
  resolved w (reach_region n) l =
      after (λ i. i < length w.regions) (Resolved w 1 1) (under (Name (codes "can_reach")) (under (Name (codes "region")) (region_named w n))) _
      (within (λ i. i < length w.regions) (Name (codes "can_reach")) (under (Name (codes "region")) (region_named w n)) (within (λ i. i < length w.regions) (Name (codes "region")) (region_named w n) (region_within w n))) (λ p h.
      record { within = omega (arith, h); progression = All-nil (IsProgressionAt w.items); size = refl; levels = refl; limits = tt })
  resolved w (reach_location n) l =
      after (λ p. p < places w) (Resolved w 1 1) (under (Name (codes "can_reach")) (under (Name (codes "location")) (location_place w n))) _
      (within (λ p. p < places w) (Name (codes "can_reach")) (under (Name (codes "location")) (location_place w n)) (within (λ p. p < places w) (Name (codes "location")) (location_place w n) (place_within w n))) (λ p h.
      record { within = h; progression = All-nil (IsProgressionAt w.items); size = refl; levels = refl; limits = tt })
  resolved w (all_of rs) l =
      after (AreResolved w (nodes_of rs) (depth_of rs)) (Resolved w (suc (nodes_of rs)) (suc (depth_of rs))) (under (Name (codes "and")) (rules_named w 0 rs)) _ (within (AreResolved w (nodes_of rs) (depth_of rs)) (Name (codes "and")) (rules_named w 0 rs) (all_resolved w 0 rs l)) (λ named h.
      record { within = h.within; progression = h.progression; size = ap suc h.size; levels = ap suc h.levels; limits = h.limits })
  resolved w (some_of rs) l =
      after (AreResolved w (nodes_of rs) (depth_of rs)) (Resolved w (suc (nodes_of rs)) (suc (depth_of rs))) (under (Name (codes "or")) (rules_named w 0 rs)) _ (within (AreResolved w (nodes_of rs) (depth_of rs)) (Name (codes "or")) (rules_named w 0 rs) (all_resolved w 0 rs l)) (λ named h.
      record { within = h.within; progression = h.progression; size = ap suc h.size; levels = ap suc h.levels; limits = h.limits })

  all_resolved : (w : RawWorld) (i : ℕ) (rs : RawRules) → AreInLimits rs → IfOk (rules_named w i rs) (AreResolved w (nodes_of rs) (depth_of rs))
  all_resolved w i no_rules l = record { within = tt; progression = All-nil (IsProgressionAt w.items); size = refl; levels = refl; limits = tt }
  all_resolved w i (a_rule r rs) l =
      after (Resolved w (nodes r) (depth r)) (AreResolved w (nodes_of (a_rule r rs)) (depth_of (a_rule r rs))) (under (Index i) (rule_named w r)) _ (within (Resolved w (nodes r) (depth r)) (Index i) (rule_named w r) (resolved w r l.0)) (λ first h.
      after (AreResolved w (nodes_of rs) (depth_of rs)) (AreResolved w (nodes_of (a_rule r rs)) (depth_of (a_rule r rs))) (rules_named w (i + 1) rs) _ (all_resolved w (i + 1) rs l.1) (λ others k.
      record {
        within = (h.within, k.within);
        progression = All-append (IsProgressionAt w.items) (items_in first) (items_in_all (seen.rules_of others)) h.progression k.progression;
        size = ap₂ (λ a b. a + b) h.size k.size;
        levels = ap₂ max h.levels k.levels;
        limits = (h.limits, k.limits);
      }))

pub rule_resolved : (w : RawWorld) (r : RawRule) → RawRuleKept r → IfOk (rule_named w r) (RuleKept w.items (places w))
rule_resolved w r kept = IfOk-weaker (rule_named w r) (Resolved w (nodes r) (depth r)) (RuleKept w.items (places w)) (λ x h.
    record { within = h.within; progression = h.progression; small = omega (arith, h.size, kept.small); shallow = omega (arith, h.levels, kept.shallow); limits = h.limits }) (resolved w r kept.limits)
