-- What is read from a text passes as it stands.
use Rattle.std.proofs.Common.{◌≡◌, ◌≤◌, ◌+◌, ℕ, ℤ, pos, List, [], ◌∷◌, Bool, true, false, Option, Some, None, Ok, codes, refl, sym, subst, arith}
use Rattle.std.specs.Prelude.{All, IfOk, IfSome, bytes_eq, if◌then◌else◌}
use Rattle.std.proofs.lemmas.List.Elements.{All-nil, All-cons}
use Rattle.std.proofs.lemmas.Result.{IfOk-at_ok}
use Rattle.mw_model.specs.Json.{Json, null, flag, whole, not_whole, numeral, words, many, members, Items, no_items, item, Members, no_members, member, items_depth, find_member, ComeAfter, IsInRange, ItemsAreWritable, IsOrdered, ItemsAreOrdered, MembersAreOrdered}
use Rattle.mw_model.specs.Passed.{IsPassed, AreFurther}
use Rattle.mw_model.specs.Sets.{Operation}
use Rattle.mw_model.specs.Texts.{has_text}
use Rattle.mw_protocol.specs.Further.{others}
use Rattle.mw_json.specs.Grammar.{under, list_at, object_at, found_or_missing, member_at, field_at, text_at}
use Rattle.mw_json.specs.Parts.{read_if, field_if_at}
use Rattle.mw_json.specs.Readers.{each_from, first_at, field_or_at}
use Rattle.mw_json.specs.Sets.{IsOperation, IsSet, set_names}
use Rattle.mw_json.specs.Valid.{IsValid, ItemsAreValid, MembersAreValid}
use Rattle.mw_json.specs.View.{view, items_view}
use Rattle.mw_json.specs.declared.refusal.Step.TheVariants.{Name, Index}
use Rattle.mw_json.specs.declared.tree.Tree.{Tree}
use Rattle.mw_json.proofs.Passing.{past, after, within}
use Rattle.mw_packets_in.specs.Fields.{any_at, wholes_at}
use Rattle.mw_packets_in.specs.Kept.{IsRead, AreRead, IsBounce, bounce_names, get_names}
use Rattle.mw_packets_in.specs.Rows.{operation_at, operations_at}
use Rattle.mw_packets_in.proofs.Ranges.{wholes_are}

-- ---- a value

mutual
  ordered : (j : Json) → IsValid j → IsOrdered j
  ordered null h = tt
  ordered (flag b) h = tt
  ordered (whole z) h = tt
  ordered not_whole h = tt
  ordered (numeral s) h = tt
  ordered (words s) h = tt
  ordered (many js) h = items_ordered js h
  ordered (members ms) h = members_ordered ms h

  items_ordered : (js : Items) → ItemsAreValid js → ItemsAreOrdered js
  items_ordered no_items h = tt
  items_ordered (item j js) h = (ordered j h.0, items_ordered js h.1)

  members_ordered : (ms : Members) → MembersAreValid ms → MembersAreOrdered ms
  members_ordered no_members h = tt
  members_ordered (member k j ms) h = (ordered j h.0, h.1, members_ordered ms h.2)

passed : (j : Json) → IsRead 62 j → IsPassed j
passed j h = record { writable = h.writable; ordered = ordered j h.valid; shallow = h.shallow }

-- ---- further members

pub others_after : (names : List (List ℕ)) (k : List ℕ) (ms : Members) → ComeAfter k ms → ComeAfter k (others names ms)
others_after names k no_members h = tt
others_after names k (member l j ms) h =
    elim (has_text names l) as (λ own. ComeAfter k (if own then others names ms else member l j (others names ms))) [
      | true ↦ others_after names k ms h.1
      | false ↦ (h.0, others_after names k ms h.1)
    ]

-- the value of the first member
first_read : (k : List ℕ) (j : Json) (ms : Members) → AreRead 62 (member k j ms) → IsRead 62 j
first_read k j ms h = record { valid = h.valid.0; writable = h.writable.0; shallow = omega (arith, h.shallow) }

-- the members after it
rest_read : (k : List ℕ) (j : Json) (ms : Members) → AreRead 62 (member k j ms) → AreRead 62 ms
rest_read k j ms h = record { valid = h.valid.2; writable = h.writable.1; shallow = omega (arith, h.shallow) }

further_passed : (names : List (List ℕ)) (ms : Members) → AreRead 62 ms → AreFurther names (others names ms)
further_passed names no_members h = tt
further_passed names (member k j ms) h =
    let rest : AreFurther names (others names ms) = further_passed names ms (rest_read k j ms h) in
    let P : Bool → Type 0 = λ own. has_text names k ≡ own → AreFurther names (if own then others names ms else member k j (others names ms)) in
    let at : P (has_text names k) =
    elim (has_text names k) as P [ true ↦ λ own. rest | false ↦ λ own. (own, passed j (first_read k j ms h), others_after names k ms h.valid.1, rest) ] in
    at refl

further_kept : (names : List (List ℕ)) (further ms : Members) → AreRead 62 ms → further ≡ others names ms → AreFurther names further
further_kept names further ms h e = subst (AreFurther names) (sym e) (further_passed names ms h)

pub get_kept : (further ms : Members) → AreRead 62 ms → further ≡ others get_names ms → AreFurther get_names further
get_kept further ms h e = further_kept get_names further ms h e

-- ---- members

found_read : (name : List ℕ) (ms : Members) → AreRead 62 ms → IfSome (find_member name ms) (IsRead 62)
found_read name no_members h = tt
found_read name (member k j ms) h =
    elim (bytes_eq k name) as (λ same. IfSome (if same then Some j else find_member name ms) (IsRead 62)) [
      | true ↦ first_read k j ms h
      | false ↦ found_read name ms (rest_read k j ms h)
    ]

member_is : (P : Json → Type 0) (name : List ℕ) (ms : Members) → IfSome (find_member name ms) P → IfOk (member_at name ms) P
member_is P name ms h =
    let Q : Option Json → Type 0 = λ found. IfSome found P → IfOk (under (Name name) (found_or_missing found)) P in
    let at : Q (find_member name ms) = elim (find_member name ms) as Q [ None ↦ λ _. tt | Some j ↦ λ k. k ] in
    at h

-- what is found among members that are read
pub member_read : (name : List ℕ) (ms : Members) (j : Json) → AreRead 62 ms → member_at name ms ≡ Ok j → IsRead 62 j
member_read name ms j h e = IfOk-at_ok (IsRead 62) e (member_is (IsRead 62) name ms (found_read name ms h))

object_read : (j : Json) → IsRead 62 j → IfOk (object_at j) (AreRead 62)
object_read (members inner) h = record { valid = h.valid; writable = h.writable; shallow = omega (arith, h.shallow) }
object_read null h = tt
object_read (flag b) h = tt
object_read (whole z) h = tt
object_read not_whole h = tt
object_read (numeral s) h = tt
object_read (words s) h = tt
object_read (many js) h = tt

-- ---- operations

operand_among : (ms : Members) → AreRead 62 ms → IfOk (field_at (codes "value") any_at ms) IsPassed
unfolding field_at
operand_among ms h =
    after (IsRead 62) IsPassed (member_at (codes "value") ms) (λ j. under (Name (codes "value")) (any_at j)) (member_is (IsRead 62) (codes "value") ms (found_read (codes "value") ms h)) passed

pub operand_passed : (value j : Json) (ms : Members) → object_at j ≡ Ok ms → IsRead 62 j → field_at (codes "value") any_at ms ≡ Ok value → IsPassed value
operand_passed value j ms e h g = IfOk-at_ok IsPassed g (operand_among ms (IfOk-at_ok (AreRead 62) e (object_read j h)))

operation_is : (j : Json) → IsRead 62 j → IfOk (operation_at j) IsOperation
unfolding operation_at
operation_is j h =
    after (AreRead 62) IsOperation (object_at j) _ (object_read j h) (λ ms r.
    past IsOperation (field_at (codes "operation") text_at ms) _ (λ name.
    after IsPassed IsOperation (field_at (codes "value") any_at ms) _ (operand_among ms r) (λ value p. p)))

-- elements that are read
record ItemsAreRead (most : ℕ) (js : Items) : Type 0 where
  valid : ItemsAreValid js
  writable : ItemsAreWritable js
  shallow : items_depth js ≤ most

one_read : (most : ℕ) (j : Json) (js : Items) → ItemsAreRead most (item j js) → IsRead most j
one_read most j js h = record { valid = h.valid.0; writable = h.writable.0; shallow = omega (arith, h.shallow) }

more_read : (most : ℕ) (j : Json) (js : Items) → ItemsAreRead most (item j js) → ItemsAreRead most js
more_read most j js h = record { valid = h.valid.1; writable = h.writable.1; shallow = omega (arith, h.shallow) }

each_is : (i : ℕ) (js : Items) → ItemsAreRead 62 js → IfOk (each_from operation_at i js) (All IsOperation)
each_is i no_items h = All-nil IsOperation
each_is i (item j js) h =
    after IsOperation (All IsOperation) (under (Index i) (operation_at j)) _ (within IsOperation (Index i) (operation_at j) (operation_is j (one_read 62 j js h))) (λ first p.
    after (All IsOperation) (All IsOperation) (each_from operation_at (i + 1) js) _ (each_is (i + 1) js (more_read 62 j js h)) (λ rest q.
    All-cons IsOperation first rest p q))

items_read : (j : Json) → IsRead 62 j → IfOk (list_at j) (ItemsAreRead 62)
items_read (many inner) h = record { valid = h.valid; writable = h.writable; shallow = omega (arith, h.shallow) }
items_read null h = tt
items_read (flag b) h = tt
items_read (whole z) h = tt
items_read not_whole h = tt
items_read (numeral s) h = tt
items_read (words s) h = tt
items_read (members ms) h = tt

operations_is : (j : Json) → IsRead 62 j → IfOk (operations_at j) (All IsOperation)
unfolding operations_at
operations_is j h = after (ItemsAreRead 62) (All IsOperation) (list_at j) _ (items_read j h) (λ js r. each_is 0 js r)

operations_kept : (operations : List Operation) (ms : Members) → AreRead 62 ms → field_at (codes "operations") operations_at ms ≡ Ok operations → All IsOperation operations
unfolding field_at
operations_kept operations ms h e =
    IfOk-at_ok (All IsOperation) e (after (IsRead 62) (All IsOperation) (member_at (codes "operations") ms) _ (member_is (IsRead 62) (codes "operations") ms (found_read (codes "operations") ms h)) (λ j r.
    within (All IsOperation) (Name (codes "operations")) (operations_at j) (operations_is j r)))

-- ---- a message between clients

-- the slots, where they are given
abbrev SlotsInRange : Option (List ℤ) → Type 0
SlotsInRange slots = IfSome slots (All IsInRange)

slots_are : (found : Option Json) → IfSome found (IsRead 62) → IfOk (read_if (λ j. under (Name (codes "slots")) (wholes_at j)) found) SlotsInRange
slots_are None h = tt
slots_are (Some j) h =
    after (All IsInRange) SlotsInRange (under (Name (codes "slots")) (wholes_at j)) _ (within (All IsInRange) (Name (codes "slots")) (wholes_at j) (wholes_are j h.valid)) (λ zs p. p)

slots_kept : (slots : Option (List ℤ)) (ms : Members) → AreRead 62 ms → field_if_at (codes "slots") wholes_at ms ≡ Ok slots → SlotsInRange slots
unfolding field_if_at
slots_kept slots ms h e = IfOk-at_ok SlotsInRange e (slots_are (find_member (codes "slots") ms) (found_read (codes "slots") ms h))

pub bounce_kept : (games tags : Option (List (List ℕ))) (slots : Option (List ℤ)) (further ms : Members) → AreRead 62 ms
    → field_if_at (codes "slots") wholes_at ms ≡ Ok slots → further ≡ others bounce_names ms
    → IsBounce record { games = games; tags = tags; slots = slots; further = further }
bounce_kept games tags slots further ms h s f = record {
  slots = slots_kept slots ms h s;
  further = further_kept bounce_names further ms h f;
}

-- ---- a change

default_is : (found : Option Json) → IfSome found (IsRead 62) → IfOk (first_at found (λ j. under (Name (codes "default")) (any_at j)) (Ok (whole (pos 0)))) IsPassed
default_is None h = record { writable = omega arith; ordered = tt; shallow = omega arith }
default_is (Some j) h = within IsPassed (Name (codes "default")) (any_at j) (passed j h)

default_kept : (fallback : Json) (ms : Members) → AreRead 62 ms → field_or_at (codes "default") (whole (pos 0)) any_at ms ≡ Ok fallback → IsPassed fallback
unfolding field_or_at
default_kept fallback ms h e = IfOk-at_ok IsPassed e (default_is (find_member (codes "default") ms) (found_read (codes "default") ms h))

pub set_kept : (key : List ℕ) (fallback : Json) (want_reply : Bool) (operations : List Operation) (further ms : Members) → AreRead 62 ms
    → field_or_at (codes "default") (whole (pos 0)) any_at ms ≡ Ok fallback → field_at (codes "operations") operations_at ms ≡ Ok operations
    → further ≡ others set_names ms
    → IsSet record { key = key; fallback = fallback; want_reply = want_reply; operations = operations; further = further }
set_kept key fallback want_reply operations further ms h d o f = record {
  fallback = default_kept fallback ms h d;
  operations = operations_kept operations ms h o;
  further = further_kept set_names further ms h f;
}

-- ---- trees

each_read : (most : ℕ) (ts : List Tree) → ItemsAreRead most (items_view ts) → All (λ t. IsRead most (view t)) ts
each_read most [] h = All-nil (λ t. IsRead most (view t))
each_read most (t ∷ ts) h =
    All-cons (λ t. IsRead most (view t)) t ts (one_read most (view t) (items_view ts) h) (each_read most ts (more_read most (view t) (items_view ts) h))

-- the elements of a list that is read
pub list_read : (ts : List Tree) (j : Json) → list_at j ≡ Ok (items_view ts) → IsRead 62 j → All (λ t. IsRead 62 (view t)) ts
list_read ts j e h = each_read 62 ts (IfOk-at_ok (ItemsAreRead 62) e (items_read j h))

-- the elements of a message
pub elements_read : (ts : List Tree) → IsRead 64 (many (items_view ts)) → All (λ t. IsRead 63 (view t)) ts
elements_read ts h = each_read 63 ts record { valid = h.valid; writable = h.writable; shallow = omega (arith, h.shallow) }

-- the members of an element
pub packet_read : (ms : Members) → IsRead 63 (members ms) → AreRead 62 ms
packet_read ms h = record { valid = h.valid; writable = h.writable; shallow = omega (arith, h.shallow) }
