-- The shape of a rule: its forms and limits, its names as they are written.
use Rattle.std.specs.Prelude.{ℕ, ◌+◌, ◌&&◌, nat_le, is_some, List, [], ◌∷◌, Bool, true, false, Option, Some, None, Result, Ok, bytes_eq, codes, if◌then◌else◌}
use Rattle.mw_model.specs.Json.{Json, null, flag, whole, not_whole, numeral, words, many, members, Items, no_items, item, Members, no_members, member, find_member}
use Rattle.mw_json.specs.Grammar.{Breach, ◌>>=◌, refused, under, number_at, name_at, object_at, field_at}
use Rattle.mw_json.specs.Parts.{there}
use Rattle.mw_json.specs.Readers.{list_of_at, field_or_at}
use Rattle.mw_json.specs.declared.refusal.Kind.TheVariants.{NotWhole, WrongKind, RuleTooLarge}
use Rattle.mw_json.specs.declared.refusal.Step.TheVariants.{Name, Index}
use Rattle.mw_tables.specs.Raw.{RawRule, always, never, has, has_all, has_any, has_count, reach_region, reach_location, all_of, some_of, rules_of, nodes, depth}

-- at most 64 names
abbrev pub names_at : Json → Result (List (List ℕ)) Breach
names_at j = list_of_at 64 (name_at 128) j

-- so many of an item, one where it isn't said
unfoldable pub has_at : Members → Result RawRule Breach
has_at ms = do
  name ← field_at (codes "has") (name_at 128) ms
  count ← field_or_at (codes "count") 1 (number_at 1 10000) ms
  Ok (has name count)

unfoldable pub has_all_at : Members → Result RawRule Breach
has_all_at ms = do
  names ← field_at (codes "has_all") names_at ms
  Ok (has_all names)

unfoldable pub has_any_at : Members → Result RawRule Breach
has_any_at ms = do
  names ← field_at (codes "has_any") names_at ms
  Ok (has_any names)

-- the names, and how many of them together
unfoldable pub has_count_at : Members → Result RawRule Breach
has_count_at ms = do
  names ← field_at (codes "count") names_at ms
  at_least ← field_at (codes "at_least") (number_at 1 10000) ms
  Ok (has_count names at_least)

unfoldable pub region_at : Members → Result RawRule Breach
region_at ms = do
  name ← field_at (codes "region") (name_at 128) ms
  Ok (reach_region name)

unfoldable pub location_at : Members → Result RawRule Breach
location_at ms = do
  name ← field_at (codes "location") (name_at 128) ms
  Ok (reach_location name)

-- there is a member of this name
abbrev pub has_member : List ℕ → Members → Bool
has_member name ms = is_some (find_member name ms)

-- a region, or else a location
abbrev pub place_in : Members → Result RawRule Breach
place_in ms =
    if has_member (codes "region") ms then region_at ms
    else (if has_member (codes "location") ms then location_at ms else refused WrongKind)

unfoldable pub place_at : Json → Result RawRule Breach
place_at j = do
  ms ← object_at j
  place_in ms

abbrev pub reach_at : Members → Result RawRule Breach
reach_at ms = field_at (codes "can_reach") place_at ms

-- the first of the forms without inner rules that the object has, if it has one. A count needs its at_least, else the
-- object isn't of this form
abbrev pub leaf_in : Members → Result (Option RawRule) Breach
leaf_in ms =
    if has_member (codes "has") ms then there (has_at ms)
    else (if has_member (codes "has_all") ms then there (has_all_at ms)
    else (if has_member (codes "has_any") ms then there (has_any_at ms)
    else (if has_member (codes "count") ms && has_member (codes "at_least") ms
    then there (has_count_at ms)
    else (if has_member (codes "can_reach") ms then there (reach_at ms) else Ok None))))

-- what was found, or else what comes next
abbrev pub leaf_or : Option RawRule → Result RawRule Breach → Result RawRule Breach
leaf_or (Some r) next = Ok r
leaf_or None next = next

abbrev pub all_or : Option (List RawRule) → Result RawRule Breach → Result RawRule Breach
all_or (Some rs) next = Ok (all_of (rules_of rs))
all_or None next = next

abbrev pub some_or : Option (List RawRule) → Result RawRule Breach → Result RawRule Breach
some_or (Some rs) next = Ok (some_of (rules_of rs))
some_or None next = next

-- true, false or an object, judged by the first form that it has
abbrev mutual
  pub form_at : Json → Result RawRule Breach
  form_at (flag true) = Ok always
  form_at (flag false) = Ok never
  form_at (members ms) =
      leaf_in ms >>= (λ leaf. leaf_or leaf (
      rules_under (codes "and") ms >>= (λ all. all_or all (
      rules_under (codes "or") ms >>= (λ some. some_or some (refused WrongKind))))))
  form_at not_whole = refused NotWhole
  form_at (numeral s) = refused WrongKind
  form_at null = refused WrongKind
  form_at (whole z) = refused WrongKind
  form_at (words s) = refused WrongKind
  form_at (many js) = refused WrongKind

  -- the rules under a name, if it is there
  pub rules_under : List ℕ → Members → Result (Option (List RawRule)) Breach
  rules_under name no_members = Ok None
  rules_under name (member k j ms) = if bytes_eq k name then there (under (Name name) (rules_at j))
      else rules_under name ms

  pub rules_at : Json → Result (List RawRule) Breach
  rules_at (many js) = rules_from 0 js
  rules_at not_whole = refused NotWhole
  rules_at (numeral s) = refused WrongKind
  rules_at null = refused WrongKind
  rules_at (flag b) = refused WrongKind
  rules_at (whole z) = refused WrongKind
  rules_at (words s) = refused WrongKind
  rules_at (members ms) = refused WrongKind

  pub rules_from : ℕ → Items → Result (List RawRule) Breach
  rules_from i no_items = Ok []
  rules_from i (item j js) = do
    first ← under (Index i) (form_at j)
    others ← rules_from (i + 1) js
    Ok (first ∷ others)

-- at most 64 forms, at most 16 deep
abbrev pub sized : RawRule → Result RawRule Breach
sized r = if nat_le (nodes r) 64 && nat_le (depth r) 16 then Ok r else refused RuleTooLarge

unfoldable pub rule_at : Json → Result RawRule Breach
rule_at j = do
  r ← form_at j
  sized r
