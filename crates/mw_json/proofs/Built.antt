-- An object's members are made field by field.
use Rattle.std.proofs.Common.{◌≡◌, ◌<◌, ◌+◌, ◌++◌, ◌∷◌, [], ℕ, List, set, length, drop, get_or, refl, ap, sym, ◌∙◌, add-one, append_assoc, append-nil, arith, subst, drop-cons}
use Rattle.std.proofs.lemmas.List.{drop-set-lt}
use Rattle.mw_model.specs.Json.{Json, IsWritable, Members, no_members, member, MembersAreWritable}
use Rattle.mw_json.specs.View.{members_of}
use Rattle.mw_json.specs.Building.{FieldHolds, FieldsHold}
use Rattle.mw_json.specs.declared.build.Field.{Field}

-- the members of an object as a list
abbrev pub listed : Members → List (List ℕ × Json)
listed no_members = []
listed (member k j ms) = (k, j) ∷ listed ms

pub listed_of : (ms : Members) → members_of (listed ms) ≡ ms
listed_of no_members = refl
listed_of (member k j ms) = ap (member k j) (listed_of ms)

pub listed_back : (ms : List (List ℕ × Json)) → listed (members_of ms) ≡ ms
listed_back [] = refl
listed_back (m ∷ ms) = ap (λ ns. m ∷ ns) (listed_back ms)

-- after these members, what is left of the whole
pub record Left (fs : List (List ℕ × Field)) (made : List (List ℕ × Json)) (ms : Members) : Type 0 where
  pub rest : List (List ℕ × Json)
  pub holds : FieldsHold fs (members_of rest)
  pub whole : members_of (made ++ rest) ≡ ms

pub all_left : (fs : List (List ℕ × Field)) (ms : Members) → FieldsHold fs ms → Left fs [] ms
all_left fs ms h = record { rest = listed ms; holds = subst (FieldsHold fs) (sym (listed_of ms)) h; whole = listed_of ms }

none_left_in : (made rest : List (List ℕ × Json)) (ms : Members) → FieldsHold [] (members_of rest) → members_of (made ++ rest) ≡ ms → members_of made ≡ ms
none_left_in made [] ms h whole = ap members_of (sym (append-nil made)) ∙ whole
none_left_in made (m ∷ rest) ms h whole = elim h [ ]

pub none_left : (made : List (List ℕ × Json)) (ms : Members) → Left [] made ms → members_of made ≡ ms
none_left made ms l = none_left_in made l.rest ms l.holds l.whole

one_left_in : (name : List ℕ) (f : Field) (fs : List (List ℕ × Field)) (j : Json) (made more rest : List (List ℕ × Json)) (ms : Members)
    → ((k : Json) → FieldHolds f k → j ≡ k) → more ≡ made ++ (name, j) ∷ [] → FieldsHold ((name, f) ∷ fs) (members_of rest) → members_of (made ++ rest) ≡ ms → Left fs more ms
one_left_in name f fs j made more [] ms is put h whole = elim h [ ]
one_left_in name f fs j made more (m ∷ rest) ms is put h whole = record {
  rest = rest;
  holds = h.2;
  whole = rw (put, append_assoc, h.0, is m.1 h.1) whole;
}

pub one_left : (name : List ℕ) (f : Field) (fs : List (List ℕ × Field)) (j : Json) (made more : List (List ℕ × Json)) (ms : Members)
    → ((k : Json) → FieldHolds f k → j ≡ k) → more ≡ made ++ (name, j) ∷ [] → Left ((name, f) ∷ fs) made ms → Left fs more ms
one_left name f fs j made more ms is put l = one_left_in name f fs j made more l.rest ms is put l.holds l.whole

-- the fields from here on are one and those after it, whatever is left in its place
pub from_here : {A : Type 0} (fs : List A) (i : ℕ) (d y : A) → i < length fs → drop i fs ≡ get_or fs i d ∷ drop (i + 1) (set fs i y)
from_here fs i d y within =
    let later : drop (i + 1) (set fs i y) ≡ drop (i + 1) fs = drop-set-lt (i + 1) fs i y (omega arith) in
    rw later (drop-cons fs i d within ∙ rw add-one)

-- one member more that can be written
pub one_member_more : (ms : List (List ℕ × Json)) (m : List ℕ × Json) → MembersAreWritable (members_of ms) → IsWritable m.1 → MembersAreWritable (members_of (ms ++ m ∷ []))
one_member_more [] m all one = (one, tt)
one_member_more (n ∷ ms) m all one = (all.0, one_member_more ms m all.1 one)
