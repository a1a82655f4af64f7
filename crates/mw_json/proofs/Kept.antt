-- What the readers of numbers, lists and members give keeps what each part keeps, and members are read in their order.
use Rattle.std.proofs.Common.{◌≡◌, ◌≤◌, ◌+◌, ℕ, List, Bool, true, false, Option, Some, None, Result, Ok, Less, nat_cmp, length, map, refl, sym, subst, arith}
use Rattle.std.specs.Prelude.{All, IfOk, IfSome, bytes_eq, if◌then◌else◌}
use Rattle.std.specs.Cmp.Lexicographic.{slice_cmp}
use Rattle.std.proofs.lemmas.Grind.{common_steps}
use Rattle.std.proofs.lemmas.List.Elements.{All-nil, All-cons}
use Rattle.std.proofs.lemmas.Result.{IfOk-weaker}
use Rattle.mw_model.specs.Ascending.{ComesBefore, NamesAscend}
use Rattle.mw_model.specs.Json.{Json, null, flag, whole, not_whole, numeral, words, many, members, Items, no_items, item, Members, no_members, member, find_member, ComeAfter}
use Rattle.mw_json.specs.Grammar.{Breach, refused, under, number_at, items_length, list_at, list_up_to, object_at, found_or_missing, member_at, field_at}
use Rattle.mw_json.specs.Parts.{not_empty, list_of_length, element_at, item_at}
use Rattle.mw_json.specs.Readers.{each_from, list_of_at, first_at, field_or_at, each_member_at}
use Rattle.mw_json.specs.Valid.{IsValid, ItemsAreValid, MembersAreValid}
use Rattle.mw_json.specs.declared.refusal.Kind.{Kind}
use Rattle.mw_json.specs.declared.refusal.Kind.TheVariants.{WrongKind, TooMany}
use Rattle.mw_json.specs.declared.refusal.Step.TheVariants.{Name, Index}
use Rattle.mw_json.proofs.Numbers.{number_in_range}
use Rattle.mw_json.proofs.Passing.{past, after, within, where_true, if_told}

module _ {A : Type 0} (P : A → Type 0) where
  -- of two readings one
  pub either : (test : Bool) (r q : Result A Breach) → IfOk r P → IfOk q P → IfOk (if test then r else q) P
  either true r q h k = h
  either false r q h k = k

  pub unless : (test : Bool) (kind : Kind) (r : Result A Breach) → (test ≡ false → IfOk r P) → IfOk (if test then refused kind else r) P
  unless true kind r h = tt
  unless false kind r h = h refl

  first_kept : (found : Option Json) (read : Json → Result A Breach) (next : Result A Breach) → ((j : Json) → IfOk (read j) P) → IfOk next P → IfOk (first_at found read next) P
  first_kept (Some j) read next h k = h j
  first_kept None read next h k = k

  -- what may be absent
  pub in_field_or : (name : List ℕ) (absent : A) (read : Json → Result A Breach) (ms : Members) → P absent → ((j : Json) → IfOk (read j) P) → IfOk (field_or_at name absent read ms) P
  unfolding field_or_at
  in_field_or name absent read ms here h = first_kept (find_member name ms) (λ j. under (Name name) (read j)) (Ok absent) (λ j. within P (Name name) (read j) (h j)) here

-- ---- numbers

abbrev pub IsBetween : ℕ → ℕ → ℕ → Type 0
IsBetween low high n = (low ≤ n) × (n ≤ high)

pub number_kept : (low high : ℕ) (j : Json) → IfOk (number_at low high j) (IsBetween low high)
number_kept low high j = if_told (IsBetween low high) (number_at low high j) (λ n e. number_in_range low high j n e)

-- ---- lists

abbrev pub HasLength : ℕ → Items → Type 0
HasLength count js = items_length js ≡ count

abbrev pub IsUpTo : ℕ → Items → Type 0
IsUpTo most js = items_length js ≤ most

pub counted : (count : ℕ) (j : Json) → IfOk (list_of_length count j) (HasLength count)
unfolding list_of_length
counted count j = past (HasLength count) (list_at j) _ (λ js. where_true (HasLength count) _ js WrongKind (λ e. grind (arith, common_steps, e)))

pub bounded : (most : ℕ) (j : Json) → IfOk (list_up_to most j) (IsUpTo most)
unfolding list_up_to
bounded most j = past (IsUpTo most) (list_at j) _ (λ js. where_true (IsUpTo most) _ js TooMany (λ e. grind (arith, common_steps, e)))

pub some_kept : (js : Items) → IfOk (not_empty js) (λ some. (1 ≤ items_length some) × (items_length some ≤ items_length js))
some_kept no_items = tt
some_kept (item j js) = (omega arith, omega arith)

-- so many, each of which keeps a rule
abbrev pub AreKept : {A : Type 0} → (A → Type 0) → ℕ → List A → Type 0
AreKept P count xs = (length xs ≡ count) × All P xs

-- a reader whose values keep a rule
module _ {A : Type 0} (P : A → Type 0) (read : Json → Result A Breach) (one : (j : Json) → IfOk (read j) P) where
  pub each_kept : (i : ℕ) (js : Items) → IfOk (each_from read i js) (AreKept P (items_length js))
  each_kept i no_items = (refl, All-nil P)
  each_kept i (item j js) =
      after P (AreKept P (items_length (item j js))) (under (Index i) (read j)) _ (within P (Index i) (read j) (one j)) (λ first h.
      after (AreKept P (items_length js)) (AreKept P (items_length (item j js))) (each_from read (i + 1) js) _ (each_kept (i + 1) js) (λ others k.
      (omega (arith, k.0), All-cons P first others h k.1)))

  pub list_kept : (most : ℕ) (j : Json) → IfOk (list_of_at most read j) (λ xs. (length xs ≤ most) × All P xs)
  unfolding list_of_at
  list_kept most j =
      let Q : List A → Type 0 = λ xs. (length xs ≤ most) × All P xs in
      after (IsUpTo most) Q (list_up_to most j) _ (bounded most j) (λ js h.
      IfOk-weaker (each_from read 0 js) (AreKept P (items_length js)) Q (λ xs k. (omega (arith, h, k.0), k.1)) (each_kept 0 js))

  pub element_kept : (n : ℕ) (js : Items) → IfOk (element_at n read js) P
  unfolding element_at
  element_kept n js = within P (Index n) (read (item_at n js)) (one (item_at n js))

-- a reader of members whose values keep a rule
pub each_member_kept : {A : Type 0} (P : A → Type 0) (read : List ℕ → Json → Result A Breach) → ((name : List ℕ) (j : Json) → IfOk (read name j) P) → (ms : Members) → IfOk (each_member_at read ms) (All P)
each_member_kept P read kept no_members = All-nil P
each_member_kept P read kept (member name j ms) =
    after P (All P) (under (Name name) (read name j)) _ (within P (Name name) (read name j) (kept name j)) (λ first h.
    after (All P) (All P) (each_member_at read ms) _ (each_member_kept P read kept ms) (λ others k. All-cons P first others h k))

-- ---- valid objects

found_valid : (name : List ℕ) (ms : Members) → MembersAreValid ms → IfOk (found_or_missing (find_member name ms)) IsValid
found_valid name no_members o = tt
found_valid name (member k j ms) o =
    elim (bytes_eq k name) as (λ b. IfOk (found_or_missing (if b then Some j else find_member name ms)) IsValid) [ true ↦ o.0 | false ↦ found_valid name ms o.2 ]

pub object_valid : (j : Json) → IsValid j → IfOk (object_at j) MembersAreValid
object_valid (members ms) o = o
object_valid not_whole o = tt
object_valid (numeral s) o = tt
object_valid null o = tt
object_valid (flag b) o = tt
object_valid (whole z) o = tt
object_valid (words s) o = tt
object_valid (many js) o = tt

pub in_valid_field : {A : Type 0} (P : A → Type 0) (name : List ℕ) (read : Json → Result A Breach) (ms : Members) → MembersAreValid ms
    → ((j : Json) → IsValid j → IfOk (read j) P) → IfOk (field_at name read ms) P
unfolding field_at
in_valid_field P name read ms o h =
    after IsValid P (member_at name ms) _ (within IsValid (Name name) (found_or_missing (find_member name ms)) (found_valid name ms o)) (λ j k. within P (Name name) (read j) (h j k))

find_valid : (name : List ℕ) (ms : Members) → MembersAreValid ms → IfSome (find_member name ms) IsValid
find_valid name no_members o = tt
find_valid name (member k j ms) o =
    elim (bytes_eq k name) as (λ b. IfSome (if b then Some j else find_member name ms) IsValid) [ true ↦ o.0 | false ↦ find_valid name ms o.2 ]

first_valid : {A : Type 0} (P : A → Type 0) (found : Option Json) (read : Json → Result A Breach) (next : Result A Breach) → IfSome found IsValid
    → ((j : Json) → IsValid j → IfOk (read j) P) → IfOk next P → IfOk (first_at found read next) P
first_valid P (Some j) read next o h k = h j o
first_valid P None read next o h k = k

-- what may be absent
pub in_valid_field_or : {A : Type 0} (P : A → Type 0) (name : List ℕ) (absent : A) (read : Json → Result A Breach) (ms : Members) → MembersAreValid ms
    → P absent → ((j : Json) → IsValid j → IfOk (read j) P) → IfOk (field_or_at name absent read ms) P
unfolding field_or_at
in_valid_field_or P name absent read ms o here h =
    first_valid P (find_member name ms) (λ j. under (Name name) (read j)) (Ok absent) (find_valid name ms o) (λ j v. within P (Name name) (read j) (h j v)) here

-- ---- valid lists

pub list_valid : (j : Json) → IsValid j → IfOk (list_at j) ItemsAreValid
list_valid (many js) o = o
list_valid not_whole o = tt
list_valid (numeral s) o = tt
list_valid null o = tt
list_valid (flag b) o = tt
list_valid (whole z) o = tt
list_valid (words s) o = tt
list_valid (members ms) o = tt

-- a reader whose values keep a rule where what is read is valid
pub each_valid_kept : {A : Type 0} (P : A → Type 0) (read : Json → Result A Breach) → ((j : Json) → IsValid j → IfOk (read j) P) → (i : ℕ) (js : Items) → ItemsAreValid js
    → IfOk (each_from read i js) (AreKept P (items_length js))
each_valid_kept P read one i no_items o = (refl, All-nil P)
each_valid_kept P read one i (item j js) o =
    after P (AreKept P (items_length (item j js))) (under (Index i) (read j)) _ (within P (Index i) (read j) (one j o.0)) (λ first h.
    after (AreKept P (items_length js)) (AreKept P (items_length (item j js))) (each_from read (i + 1) js) _ (each_valid_kept P read one (i + 1) js o.1) (λ others k.
    (omega (arith, k.0), All-cons P first others h k.1)))

-- ---- members in order

-- a reader of members whose values have the members' names
module _ {A : Type 0} (P : A → Type 0) (called : A → List ℕ) (read : List ℕ → Json → Result A Breach) (one : (k : List ℕ) (j : Json) → IsValid j → IfOk (read k j) (λ x. (called x ≡ k) × P x)) where
  pub record AreNamed (ms : Members) (xs : List A) : Type 0 where
    pub each : All P xs
    pub follow : (k : List ℕ) → ComeAfter k ms → ComesBefore (slice_cmp nat_cmp) k (map called xs)
    pub ascend : NamesAscend (map called xs)

  pub members_kept : (ms : Members) → MembersAreValid ms → IfOk (each_member_at read ms) (AreNamed ms)
  members_kept no_members o = record { each = All-nil P; follow = λ k h. tt; ascend = tt }
  members_kept (member k j ms) o =
      let Q : A → Type 0 = λ x. (called x ≡ k) × P x in
      after Q (AreNamed (member k j ms)) (under (Name k) (read k j)) _ (within Q (Name k) (read k j) (one k j o.0)) (λ first h.
      after (AreNamed ms) (AreNamed (member k j ms)) (each_member_at read ms) _ (members_kept ms o.2) (λ others l. record {
        each = All-cons P first others h.1 l.each;
        follow = λ n a. (subst (λ m. slice_cmp nat_cmp n m ≡ Less) (sym h.0) a.0, l.follow n a.1);
        ascend = (l.follow (called first) (subst (λ n. ComeAfter n ms) (sym h.0) o.1), l.ascend);
      }))
