-- What is read from a text has its whole numbers in range and the members of each object in order.
use Rattle.std.proofs.Common.{◌≡◌, ◌<◌, ◌≤◌, ◌^◌, ◌==◌, ◌&&◌, ℕ, zero, suc, pos, List, drop, Bool, true, false, Option, Some, None, Result, Ok, Err, option_map, option_and_then, nat_cmp, refl, sym, ap, subst, arith}
use Rattle.std.specs.Prelude.{IfOk, IfSome, nat_lt, nat_le, neg_ℤ, slice_index, if◌then◌else◌}
use Rattle.std.specs.Float.Numeral.{minus, Parts, numeral_digits, scan_numeral}
use Rattle.std.proofs.lemmas.Grind.{common_steps}
use Rattle.std.proofs.lemmas.Option.{MatchOption-at_some}
use Rattle.std.specs.Ordering.{match_ordering}
use Rattle.std.specs.declared.cmp.Ordering.{Ordering}
use Rattle.std.specs.declared.cmp.Ordering.TheVariants.{Less, Equal, Greater}
use Rattle.std.specs.Cmp.Lexicographic.{slice_cmp}
use Rattle.json.specs.Json as json
use Rattle.json.specs.Lex.{tokens}
use Rattle.serde_json.specs.Data as found
use Rattle.serde_json.specs.Read as read
use Rattle.mw_model.specs.Json.{Json, depth, member, IsInRange}
use Rattle.mw_model.specs.Trees.{set_member}
use Rattle.mw_json.specs.Reading.{of_data, of_items, of_members, of_number, reading, IsReading}
use Rattle.mw_json.specs.View.{view}
use Rattle.mw_json.specs.declared.error.JsonError.{JsonError}
use Rattle.mw_json.specs.declared.tree.Tree.{Tree}
use Rattle.mw_json.specs.Valid.{IsValid, ItemsAreValid, MembersAreValid}
use Rattle.mw_json.proofs.Setting.{Placed, set_valid}

-- ---- what holds of a value, where there is one

module _ {A B : Type 0} (Q : B → Type 0) where
  mapped : (f : A → B) (o : Option A) → IfSome o (λ x. Q (f x)) → IfSome (option_map f o) Q
  mapped f (Some x) h = h
  mapped f None h = tt

  then_some : (P : A → Type 0) (f : A → Option B) (o : Option A) → IfSome o P → ((x : A) → P x → IfSome (f x) Q) → IfSome (option_and_then f o) Q
  then_some P f (Some x) h k = k x h
  then_some P f None h k = tt

  past_some : (f : A → Option B) (o : Option A) → ((x : A) → IfSome (f x) Q) → IfSome (option_and_then f o) Q
  past_some f (Some x) k = k x
  past_some f None k = tt

-- ---- a member that is put at its place

put_is : (k : List ℕ) (d : found.Data) (ms : found.Members) → of_members (found.put k d ms) ≡ set_member k (of_data d) (of_members ms)
put_is k d found.no_members = refl
put_is k d (found.member m e ms) =
    let P : Ordering → Type 0 = λ o. of_members (match_ordering o (found.member k d (found.member m e ms)) (found.member m d ms) (found.member m e (found.put k d ms))) ≡ Placed k (of_data d) m (of_data e) (of_members ms) o in
    elim (slice_cmp nat_cmp k m) as P [ Less ↦ refl | Equal ↦ refl | Greater ↦ ap (member m (of_data e)) (put_is k d ms) ]

put_valid : (k : List ℕ) (d : found.Data) (ms : found.Members) → IsValid (of_data d) → MembersAreValid (of_members ms) → MembersAreValid (of_members (found.put k d ms))
put_valid k d ms one h = subst MembersAreValid (sym (put_is k d ms)) (set_valid k (of_data d) (of_members ms) one h)

-- ---- the whole

-- a number in range, or a float
abbrev Fits : found.Num → Type 0
Fits n = IsValid (of_number n)

finite : (test : Bool) (x : _) → IfSome (if test then Some (found.float x) else None) Fits
finite true x = tt
finite false x = tt

float_fits : (sign : Bool) (p : Parts) → IfSome (read.float_of sign p) Fits
float_fits sign p = finite _ _

guarded : (test : Bool) (n : found.Num) (rest : Option found.Num) → (test ≡ true → Fits n) → IfSome rest Fits → IfSome (if test then Some n else rest) Fits
guarded true n rest h k = h refl
guarded false n rest h k = k

below : (whole : Bool) (n most : ℕ) → (whole && nat_lt n most) ≡ true → n < most
below true n most e = grind (arith, common_steps, e)
below false n most e = cc

up_to : (whole some : Bool) (n most : ℕ) → (whole && some && nat_le n most) ≡ true → n ≤ most
up_to true true n most e = grind (arith, common_steps, e)
up_to true false n most e = cc
up_to false some n most e = cc

negative_fits : (n : ℕ) → n ≤ 2 ^ 63 → IsInRange (neg_ℤ (pos n))
negative_fits zero h = omega arith
negative_fits (suc n) h = omega arith

from_valid : (sign : Bool) (p : Parts) → IfSome (read.number_from sign p) Fits
from_valid false p = guarded _ (found.unsigned (numeral_digits p)) (read.float_of false p) (below (read.is_integer p) (numeral_digits p) (2 ^ 64)) (float_fits false p)
from_valid true p =
    guarded _ (found.negative (neg_ℤ (pos (numeral_digits p)))) (read.float_of true p)
    (λ e. negative_fits (numeral_digits p) (up_to (read.is_integer p) (nat_lt 0 (numeral_digits p)) (numeral_digits p) (2 ^ 63) e)) (float_fits true p)

one_of : (test : Bool) (p q : Parts) → IfSome (if test then read.number_from true p else read.number_from false q) Fits
one_of true p q = from_valid true p
one_of false p q = from_valid false q

number_valid : (s : List ℕ) → IfSome (read.number_of s) Fits
unfolding read.number_of
number_valid s = one_of (slice_index s 0 == minus) (scan_numeral (drop 1 s)) (scan_numeral s)

with_one : {A : Type 0} {P Q : A → Type 0} (o : Option A) → ((x : A) → P x → Q x) → IfSome o P → IfSome o Q
with_one (Some x) f h = f x h
with_one None f h = tt

abbrev DataIsValid : found.Data → Type 0
DataIsValid d = IsValid (of_data d)

abbrev AreValidItems : found.Items → Type 0
AreValidItems ds = ItemsAreValid (of_items ds)

abbrev AreValidMembers : found.Members → Type 0
AreValidMembers ms = MembersAreValid (of_members ms)

mutual
  value_valid : (j : json.Json) → IfSome (read.of_json j) DataIsValid
  value_valid json.null = tt
  value_valid (json.boolean b) = tt
  value_valid (json.number s) = mapped DataIsValid found.number (read.number_of s) (number_valid s)
  value_valid (json.string s) = tt
  value_valid (json.array js) = mapped DataIsValid found.array (read.of_items js) (items_valid js)
  value_valid (json.object ms) = mapped DataIsValid found.object (read.of_members ms found.no_members) (members_valid ms found.no_members tt)

  items_valid : (js : json.Items) → IfSome (read.of_items js) AreValidItems
  items_valid json.no_items = tt
  items_valid (json.item j js) =
      then_some AreValidItems DataIsValid (λ d. option_map (found.item d) (read.of_items js)) (read.of_json j) (value_valid j) (λ d one.
      mapped AreValidItems (found.item d) (read.of_items js) (with_one {P = AreValidItems} {Q = λ ds. DataIsValid d × AreValidItems ds} (read.of_items js) (λ ds others. (one, others)) (items_valid js)))

  members_valid : (ms : json.Members) (done : found.Members) → AreValidMembers done → IfSome (read.of_members ms done) AreValidMembers
  members_valid json.no_members done h = h
  members_valid (json.member k j ms) done h =
      then_some AreValidMembers DataIsValid (λ d. read.of_members ms (found.put k d done)) (read.of_json j) (value_valid j) (λ d one.
      members_valid ms (found.put k d done) (put_valid k d done one h))

-- a text's reading is valid
pub text_valid : (bytes : List ℕ) → IfSome (reading bytes) IsValid
text_valid bytes = mapped IsValid of_data (read.read bytes) (past_some DataIsValid read.of_json (option_and_then (λ p. json.if_last p.0 p.1) (json.value read.max_depth (tokens bytes))) value_valid)

pub reading_valid : (bytes : List ℕ) (j : Json) → IsReading bytes j → IsValid j
reading_valid bytes j h = MatchOption-at_some (Unit {0}) IsValid j h.is (text_valid bytes)

-- a tree that is read is valid
pub all_valid : (bytes : List ℕ) (n : ℕ) (read : Result Tree JsonError) → IfOk read (λ t. IsReading bytes (view t) × (depth (view t) ≤ n)) → IfOk read (λ t. IsValid (view t))
all_valid bytes n (Ok t) h = reading_valid bytes (view t) h.0
all_valid bytes n (Err e) h = tt
