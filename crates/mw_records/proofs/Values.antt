-- A value's text: when it is the compact text of its own kept reading.
use Rattle.std.proofs.Common.{◌≡◌, ◌<◌, ◌^◌, ◌&&◌, ◌↔◌, ℕ, pos, negsuc, List, length, Bool, true, false, Some, None, refl, sym, arith}
use Rattle.std.specs.Prelude.{IsTrue, IsUtf8, bytes_eq, nat_le, if◌then◌else◌}
use Rattle.std.specs.Str.{is_utf8}
use Rattle.std.proofs.lemmas.Bool.{ltb-true, le-leb, leb-true}
use Rattle.std.proofs.lemmas.Slice.Eq.{bytes_eq-Decides}
use Rattle.std.proofs.lemmas.Str.{IsUtf8-from_is_utf8, is_utf8-from_IsUtf8}
use Rattle.mw_model.specs.Json.{Json, null, flag, whole, not_whole, numeral, words, many, members, Items, no_items, item, Members, no_members, member, depth, IsWritable, ItemsAreWritable, MembersAreWritable, IsOrdered, ItemsAreOrdered, MembersAreOrdered}
use Rattle.mw_model.specs.Spelling.{spelling}
use Rattle.mw_protocol.specs.Spelled.{IsValue}
use Rattle.mw_json.specs.KeptReading.{kept_reading, IsKeptReading}
use Rattle.mw_json.specs.Reading.{max_depth}
use Rattle.mw_json.specs.Valid.{IsValid, ItemsAreValid, MembersAreValid}
use Rattle.mw_json.proofs.KeptAgain.{is_kept_one, numeral_is}
use Rattle.mw_json.proofs.KeptGood.{kept_good}
use Rattle.mw_records.specs.Reading.{IsRead, is_writable, items_are_writable, members_are_writable, is_compact, compact_value, value_of}

-- ---- tests

pub utf8_true : (bytes : List ℕ) → IsUtf8 bytes → is_utf8 bytes ≡ true
utf8_true bytes h = is_utf8-from_IsUtf8 bytes h

no_truth : (b : Bool) → (b ≡ true → ⊥) → b ≡ false
no_truth true h = absurd (h refl)
no_truth false h = refl

pub utf8_false : (bytes : List ℕ) → (IsUtf8 bytes → ⊥) → is_utf8 bytes ≡ false
utf8_false bytes h = no_truth (is_utf8 bytes) (λ e. h (IsUtf8-from_is_utf8 bytes e))

pub ruleset utf8_tests = (utf8_true, utf8_false)

pub and_left : (a b : Bool) → (a && b) ≡ true → a ≡ true
and_left true b e = refl
and_left false b e = cc

pub and_right : (a b : Bool) → (a && b) ≡ true → b ≡ true
and_right true b e = e
and_right false b e = cc

pub both : (a b : Bool) → a ≡ true → b ≡ true → (a && b) ≡ true
both true b e f = f
both false b e f = cc

pub same_bytes : (xs ys : List ℕ) → bytes_eq xs ys ≡ true → xs ≡ ys
same_bytes xs ys e = (bytes_eq-Decides xs ys).0 e

-- ---- what can be written

mutual
  pub writable_where : (j : Json) → is_writable j ≡ true → IsWritable j
  writable_where null e = tt
  writable_where (flag b) e = tt
  writable_where (whole (pos n)) e = ltb-true n (2 ^ 64) e
  writable_where (whole (negsuc n)) e = ltb-true n (2 ^ 63) e
  writable_where not_whole e = absurd cc
  writable_where (numeral s) e = numeral_is s e
  writable_where (words s) e = tt
  writable_where (many js) e = items_writable_where js e
  writable_where (members ms) e = members_writable_where ms e

  items_writable_where : (js : Items) → items_are_writable js ≡ true → ItemsAreWritable js
  items_writable_where no_items e = tt
  items_writable_where (item j js) e =
      (writable_where j (and_left (is_writable j) (items_are_writable js) e), items_writable_where js (and_right (is_writable j) (items_are_writable js) e))

  members_writable_where : (ms : Members) → members_are_writable ms ≡ true → MembersAreWritable ms
  members_writable_where no_members e = tt
  members_writable_where (member k j ms) e =
      (writable_where j (and_left (is_writable j) (members_are_writable ms) e), members_writable_where ms (and_right (is_writable j) (members_are_writable ms) e))

mutual
  pub tests_writable : (j : Json) → IsWritable j → is_writable j ≡ true
  tests_writable null w = refl
  tests_writable (flag b) w = refl
  tests_writable (whole (pos n)) w = le-leb _ _ w
  tests_writable (whole (negsuc n)) w = le-leb _ _ w
  tests_writable not_whole w = absurd w
  tests_writable (numeral s) w = is_kept_one s w
  tests_writable (words s) w = refl
  tests_writable (many js) w = items_test_writable js w
  tests_writable (members ms) w = members_test_writable ms w

  items_test_writable : (js : Items) → ItemsAreWritable js → items_are_writable js ≡ true
  items_test_writable no_items w = refl
  items_test_writable (item j js) w = both (is_writable j) (items_are_writable js) (tests_writable j w.0) (items_test_writable js w.1)

  members_test_writable : (ms : Members) → MembersAreWritable ms → members_are_writable ms ≡ true
  members_test_writable no_members w = refl
  members_test_writable (member k j ms) w = both (is_writable j) (members_are_writable ms) (tests_writable j w.0) (members_test_writable ms w.1)

-- a test that says whether a value can be written
pub same_test : (b : Bool) (j : Json) → (IsTrue b ↔ IsWritable j) → b ≡ is_writable j
same_test true j h = sym (tests_writable j (h.0 refl))
same_test false j h = sym (no_truth (is_writable j) (λ e. let f : false ≡ true = h.1 (writable_where j e) in cc))

pub not_compact : (text : List ℕ) (j : Json) (b : Bool) → (IsTrue b ↔ IsWritable j) → b ≡ false → false ≡ is_compact text j
unfolding is_compact
not_compact text j b h e = rw (← same_test b j h, e) refl

pub compact_where : (text again : List ℕ) (j : Json) (b r : Bool) → (IsTrue b ↔ IsWritable j) → b ≡ true → again ≡ spelling j → r ≡ bytes_eq again text → r ≡ is_compact text j
unfolding is_compact
compact_where text again j b r h e is f = rw (← same_test b j h, e, ← is) f

-- ---- members in order

mutual
  ordered : (j : Json) → IsValid j → IsOrdered j
  ordered null h = tt
  ordered (flag b) h = tt
  ordered (whole z) h = tt
  ordered not_whole h = tt
  ordered (numeral s) h = tt
  ordered (words s) h = tt
  ordered (many js) h = items_ordered js h
  ordered (members ms) h = members_ordered ms h

  items_ordered : (js : Items) → ItemsAreValid js → ItemsAreOrdered js
  items_ordered no_items h = tt
  items_ordered (item j js) h = (ordered j h.0, items_ordered js h.1)

  members_ordered : (ms : Members) → MembersAreValid ms → MembersAreOrdered ms
  members_ordered no_members h = tt
  members_ordered (member k j ms) h = (ordered j h.0, h.1, members_ordered ms h.2)

-- what a text is read as is valid
pub kept_valid : (text : List ℕ) (j : Json) → IsKeptReading text j → IsValid j
kept_valid text j h = (kept_good text j h).0

-- ---- a value's text

pub no_text : (text : List ℕ) → (IsUtf8 text → kept_reading text ≡ None) → value_of text ≡ None
unfolding value_of
no_text text h =
    let P : Bool → Type 0 = λ b. is_utf8 text ≡ b → (if b then compact_value text (kept_reading text) else None) ≡ None in
    let at : P (is_utf8 text) =
    elim (is_utf8 text) as P [ true ↦ λ e. rw (h (IsUtf8-from_is_utf8 text e)) refl | false ↦ λ e. refl ] in
    at refl

pub too_deep : (text : List ℕ) (j : Json) → IsKeptReading text j → max_depth < depth j → value_of text ≡ None
unfolding value_of
too_deep text j r deep =
    let shallow : nat_le (depth j) max_depth ≡ false = no_truth _ (λ e. omega (arith, leb-true (depth j) max_depth e)) in
    rw (utf8_true text r.utf8, r.is, shallow) refl

pub other_text : (text : List ℕ) (j : Json) → IsRead text j → false ≡ is_compact text j → value_of text ≡ None
unfolding value_of
other_text text j r e = rw (utf8_true text r.stands.utf8, r.stands.is, le-leb (depth j) max_depth r.shallow, ← e) refl

pub own_text : (text : List ℕ) (j : Json) → IsRead text j → true ≡ is_compact text j → value_of text ≡ Some j
unfolding value_of
own_text text j r e = rw (utf8_true text r.stands.utf8, r.stands.is, le-leb (depth j) max_depth r.shallow, ← e) refl

pub own_value : (text : List ℕ) (j : Json) → IsRead text j → true ≡ is_compact text j → length text < 2 ^ 32 → IsValue j
unfolding is_compact
own_value text j r e short =
    let is = same_bytes (spelling j) text (and_right (is_writable j) (bytes_eq (spelling j) text) (sym e)) in
    record {
      writable = writable_where j (and_left (is_writable j) (bytes_eq (spelling j) text) (sym e));
      ordered = ordered j r.valid;
      shallow = r.shallow;
      text = rw is r.stands.utf8;
      short = rw is short;
    }
