-- What the tables of a world keep as they are written.
use Rattle.std.proofs.Common.{◌≡◌, ◌≤◌, ℕ, ◌+◌, ◌&&◌, List, length, true, false, Option, Some, None, Result, Ok, Err, All, arith}
use Rattle.std.specs.Prelude.{IfOk, bytes_eq, codes, nat_le}
use Rattle.std.proofs.lemmas.Grind.{common_steps}
use Rattle.std.proofs.lemmas.Result.{IfOk-weaker}
use Rattle.mw_model.specs.Json.{Json, null, flag, whole, not_whole, numeral, words, many, members, Items, no_items, item, Members, no_members, member}
use Rattle.mw_json.specs.Grammar.{Breach, under, refused, number_at, name_at, object_at, field_at}
use Rattle.mw_json.specs.Parts.{there}
use Rattle.mw_json.specs.Readers.{field_or_at}
use Rattle.mw_json.specs.declared.refusal.Kind.TheVariants.{WrongKind, RuleTooLarge}
use Rattle.mw_json.specs.declared.refusal.Step.TheVariants.{Name, Index}
use Rattle.mw_multi.specs.RulesKept.{IsCount}
use Rattle.mw_tables.specs.Raw.{RawRule, always, never, has, has_all, has_any, has_count, reach_region, reach_location, all_of, some_of, RawRules, no_rules, a_rule, rules_of, nodes, depth}
use Rattle.mw_tables.specs.RuleShape.{names_at, has_at, has_all_at, has_any_at, has_count_at, region_at, location_at, has_member, place_at, reach_at, leaf_in, leaf_or, all_or, some_or, form_at, rules_under, rules_at, rules_from, rule_at}
use Rattle.mw_json.proofs.Passing.{past, after, within, where_true, in_field}
use Rattle.mw_json.proofs.Kept.{number_kept, list_kept, in_field_or, either}
use Rattle.mw_tables.proofs.Read.{name_kept}
use Rattle.mw_multi.specs.Names.{IsName}

-- each list of names and each count in the rule is in its limits
abbrev mutual
  pub InLimits : RawRule → Type 0
  InLimits always = Unit {0}
  InLimits never = Unit {0}
  InLimits (has n k) = IsCount k
  InLimits (has_all ns) = length ns ≤ 64
  InLimits (has_any ns) = length ns ≤ 64
  InLimits (has_count ns k) = (length ns ≤ 64) × IsCount k
  InLimits (reach_region n) = Unit {0}
  InLimits (reach_location n) = Unit {0}
  InLimits (all_of rs) = AreInLimits rs
  InLimits (some_of rs) = AreInLimits rs

  pub AreInLimits : RawRules → Type 0
  AreInLimits no_rules = Unit {0}
  AreInLimits (a_rule r rs) = InLimits r × AreInLimits rs

pub record RawRuleKept (r : RawRule) : Type 0 where
  pub small : nodes r ≤ 64
  pub shallow : depth r ≤ 16
  pub limits : InLimits r

-- the same of a rule that was found, if one was
abbrev LeafKept : Option RawRule → Type 0
LeafKept (Some r) = InLimits r
LeafKept None = Unit {0}

abbrev FoundKept : Option (List RawRule) → Type 0
FoundKept (Some rs) = AreInLimits (rules_of rs)
FoundKept None = Unit {0}

abbrev ListKept : List RawRule → Type 0
ListKept rs = AreInLimits (rules_of rs)

abbrev IsShort : List (List ℕ) → Type 0
IsShort ns = length ns ≤ 64

names_short : (j : Json) → IfOk (names_at j) IsShort
names_short j = IfOk-weaker (names_at j) (λ ns. (length ns ≤ 64) × All (IsName 128) ns) IsShort (λ ns h. h.0) (list_kept (IsName 128) (name_at 128) (name_kept 128) 64 j)

count_kept : (j : Json) → IfOk (number_at 1 10000 j) IsCount
count_kept j = IfOk-weaker (number_at 1 10000 j) (λ n. (1 ≤ n) × (n ≤ 10000)) IsCount (λ n h. record { low = h.0; high = h.1 }) (number_kept 1 10000 j)

has_kept : (ms : Members) → IfOk (has_at ms) InLimits
unfolding has_at
has_kept ms =
    past InLimits (field_at (codes "has") (name_at 128) ms) _ (λ name.
    after IsCount InLimits (field_or_at (codes "count") 1 (number_at 1 10000) ms) _ (in_field_or IsCount (codes "count") 1 (number_at 1 10000) ms (record { low = omega arith; high = omega arith }) count_kept) (λ count h. h))

has_all_kept : (ms : Members) → IfOk (has_all_at ms) InLimits
unfolding has_all_at
has_all_kept ms = after IsShort InLimits (field_at (codes "has_all") names_at ms) _ (in_field IsShort (codes "has_all") names_at ms names_short) (λ names h. h)

has_any_kept : (ms : Members) → IfOk (has_any_at ms) InLimits
unfolding has_any_at
has_any_kept ms = after IsShort InLimits (field_at (codes "has_any") names_at ms) _ (in_field IsShort (codes "has_any") names_at ms names_short) (λ names h. h)

has_count_kept : (ms : Members) → IfOk (has_count_at ms) InLimits
unfolding has_count_at
has_count_kept ms =
    after IsShort InLimits (field_at (codes "count") names_at ms) _ (in_field IsShort (codes "count") names_at ms names_short) (λ names h.
    after IsCount InLimits (field_at (codes "at_least") (number_at 1 10000) ms) _ (in_field IsCount (codes "at_least") (number_at 1 10000) ms count_kept) (λ least l. (h, l)))

place_kept : (j : Json) → IfOk (place_at j) InLimits
unfolding place_at region_at location_at
place_kept j = past InLimits (object_at j) _ (λ ms.
    either InLimits (has_member (codes "region") ms) (region_at ms) _ (past InLimits (field_at (codes "region") (name_at 128) ms) _ (λ n. tt))
    (either InLimits (has_member (codes "location") ms) (location_at ms) (refused WrongKind) (past InLimits (field_at (codes "location") (name_at 128) ms) _ (λ n. tt)) tt))

form : (read : Result RawRule Breach) → IfOk read InLimits → IfOk (there read) LeafKept
form read h = after InLimits LeafKept read _ h (λ rule k. k)

leaf_kept : (ms : Members) → IfOk (leaf_in ms) LeafKept
leaf_kept ms =
    either LeafKept (has_member (codes "has") ms) (there (has_at ms)) _ (form (has_at ms) (has_kept ms))
    (either LeafKept (has_member (codes "has_all") ms) (there (has_all_at ms)) _ (form (has_all_at ms) (has_all_kept ms))
    (either LeafKept (has_member (codes "has_any") ms) (there (has_any_at ms)) _ (form (has_any_at ms) (has_any_kept ms))
    (either LeafKept (has_member (codes "count") ms && has_member (codes "at_least") ms) (there (has_count_at ms)) _ (form (has_count_at ms) (has_count_kept ms))
    (either LeafKept (has_member (codes "can_reach") ms) (there (reach_at ms)) (Ok None) (form (reach_at ms) (in_field InLimits (codes "can_reach") place_at ms place_kept)) tt))))

leaf_or_kept : (leaf : Option RawRule) (next : Result RawRule Breach) → LeafKept leaf → IfOk next InLimits → IfOk (leaf_or leaf next) InLimits
leaf_or_kept (Some r) next h k = h
leaf_or_kept None next h k = k

all_or_kept : (found : Option (List RawRule)) (next : Result RawRule Breach) → FoundKept found → IfOk next InLimits → IfOk (all_or found next) InLimits
all_or_kept (Some rs) next h k = h
all_or_kept None next h k = k

some_or_kept : (found : Option (List RawRule)) (next : Result RawRule Breach) → FoundKept found → IfOk next InLimits → IfOk (some_or found next) InLimits
some_or_kept (Some rs) next h k = h
some_or_kept None next h k = k

there_kept : (read : Result (List RawRule) Breach) → IfOk read ListKept → IfOk (there read) FoundKept
there_kept (Ok rs) h = h
there_kept (Err e) h = tt

mutual
  form_kept : (j : Json) → IfOk (form_at j) InLimits
  form_kept (flag true) = tt
  form_kept (flag false) = tt
  form_kept (members ms) =
      after LeafKept InLimits (leaf_in ms) _ (leaf_kept ms) (λ leaf h. leaf_or_kept leaf _ h (
      after FoundKept InLimits (rules_under (codes "and") ms) _ (under_kept (codes "and") ms) (λ all k. all_or_kept all _ k (
      after FoundKept InLimits (rules_under (codes "or") ms) _ (under_kept (codes "or") ms) (λ some l. some_or_kept some (refused WrongKind) l tt)))))
  form_kept not_whole = tt
  form_kept (numeral s) = tt
  form_kept null = tt
  form_kept (whole z) = tt
  form_kept (words s) = tt
  form_kept (many js) = tt

  under_kept : (name : List ℕ) (ms : Members) → IfOk (rules_under name ms) FoundKept
  under_kept name no_members = tt
  under_kept name (member k j ms) =
      either FoundKept (bytes_eq k name) (there (under (Name name) (rules_at j))) (rules_under name ms) (there_kept (under (Name name) (rules_at j)) (within ListKept (Name name) (rules_at j) (rules_kept j))) (under_kept name ms)

  rules_kept : (j : Json) → IfOk (rules_at j) ListKept
  rules_kept (many js) = from_kept 0 js
  rules_kept not_whole = tt
  rules_kept (numeral s) = tt
  rules_kept null = tt
  rules_kept (flag b) = tt
  rules_kept (whole z) = tt
  rules_kept (words s) = tt
  rules_kept (members ms) = tt

  from_kept : (i : ℕ) (js : Items) → IfOk (rules_from i js) ListKept
  from_kept i no_items = tt
  from_kept i (item j js) =
      after InLimits ListKept (under (Index i) (form_at j)) _ (within InLimits (Index i) (form_at j) (form_kept j)) (λ first h.
      after ListKept ListKept (rules_from (i + 1) js) _ (from_kept (i + 1) js) (λ others k. (h, k)))

size_known : (n m : ℕ) → (nat_le n 64 && nat_le m 16) ≡ true → (n ≤ 64) × (m ≤ 16)
size_known n m h = (grind (arith, common_steps), grind (arith, common_steps))

pub rule_kept : (j : Json) → IfOk (rule_at j) RawRuleKept
unfolding rule_at
rule_kept j =
    after InLimits RawRuleKept (form_at j) _ (form_kept j) (λ r h.
    where_true RawRuleKept (nat_le (nodes r) 64 && nat_le (depth r) 16) r RuleTooLarge (λ e. let known = size_known (nodes r) (depth r) e in record { small = known.0; shallow = known.1; limits = h }))
