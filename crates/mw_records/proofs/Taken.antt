-- A record that is read is the record that was written, and what was written is read again.
use Rattle.std.proofs.Common.{◌≡◌, ℕ, ℤ, Bool, true, false, cond, eqb, List, [], ◌∷◌, ◌++◌, Option, Some, None, refl, sym, ap, subst, ◌∙◌}
use Rattle.std.proofs.lemmas.Bool.{eqb-true}
use Rattle.mw_protocol.specs.Records.{Record, checks, release, collect, status, hint, hint_status, store}
use Rattle.mw_protocol.specs.Spelled.{place_bytes, record_bytes, IsPlace, IsRecord}
use Rattle.mw_records.specs.Reading.{◌>>=◌, place_at, checks_at, release_at, collect_at, status_at, made, made_at, marked_at, store_at, hint_named, kind_named, record_at}
use Rattle.mw_records.proofs.Spelling.{IsBytes, IsBytes-rest, bind_some, some_is, Takes, IsField, both_at, two_take, two_again}
use Rattle.mw_records.proofs.Places.{client_status_is, hint_status_is, place_is, place_spelling, target_is, terms_is, locations_is, key_is, value_is}

-- ---- records, by their kinds

abbrev RecordTaken : ℕ → List ℕ → Record × List ℕ → Type 0
RecordTaken kind bytes y = Takes (kind ∷ bytes) (record_bytes y.0) y.1 × IsRecord y.0

after_kind : (kind : ℕ) (bytes text rest : List ℕ) → Takes bytes text rest → Takes (kind ∷ bytes) (kind ∷ text) rest
after_kind kind bytes text rest t = record { parts = ap (λ (x : List ℕ). kind ∷ x) t.parts; rest_fits = t.rest_fits }

module _ {A B : Type 0} {read : List ℕ → Option (A × List ℕ)} {spell : A → List ℕ} {F : A → Type 0} {read2 : List ℕ → Option (B × List ℕ)} {spell2 : B → List ℕ} {G : B → Type 0} (first : IsField read spell F) (second : IsField read2 spell2 G) where
  two_taken : (make : A → B → Record) (kind : ℕ) → ((a : A) (b : B) → kind ∷ spell a ++ spell2 b ≡ record_bytes (make a b)) → ((a : A) (b : B) → F a → G b → IsRecord (make a b))
      → (bytes : List ℕ) (y : Record × List ℕ) → IsBytes bytes → both_at read read2 make bytes ≡ Some y → RecordTaken kind bytes y
  two_taken make kind same fit bytes y fits e =
      let t = two_take first second make bytes y fits e in
      let here = after_kind kind bytes (spell t.0 ++ spell2 t.1) y.1 t.3 in
      let spelled : Takes (kind ∷ bytes) (record_bytes (make t.0 t.1)) y.1 = subst (λ (text : List ℕ). Takes (kind ∷ bytes) text y.1) (same t.0 t.1) here in
      subst (λ (r : Record). Takes (kind ∷ bytes) (record_bytes r) y.1 × IsRecord r) t.2 (spelled, fit t.0 t.1 t.4 t.5)

abbrev of_place : (ℕ → ℕ → Record) → (ℕ × ℕ) × List ℕ → Option (Record × List ℕ)
of_place make x = Some (make x.0.0 x.0.1, x.1)

place_taken : (make : ℕ → ℕ → Record) (kind : ℕ) → ((team slot : ℕ) → kind ∷ place_bytes team slot ≡ record_bytes (make team slot)) → ((team slot : ℕ) → IsPlace team slot → IsRecord (make team slot))
    → (bytes : List ℕ) (y : Record × List ℕ) → IsBytes bytes → (place_at bytes >>= of_place make) ≡ Some y → RecordTaken kind bytes y
place_taken make kind same fit bytes y fits e =
    let a = bind_some (place_at bytes) (of_place make) y e in
    let p = place_is.takes bytes a.0 fits a.1 in
    let here = after_kind kind bytes (place_spelling a.0.0) a.0.1 p.0 in
    let spelled : Takes (kind ∷ bytes) (record_bytes (make a.0.0.0 a.0.0.1)) a.0.1 = subst (λ (text : List ℕ). Takes (kind ∷ bytes) text a.0.1) (same a.0.0.0 a.0.0.1) here in
    let found : Record × List ℕ = (make a.0.0.0 a.0.0.1, a.0.1) in
    subst (λ (z : Record × List ℕ). RecordTaken kind bytes z) (some_is found y a.2) (spelled, fit a.0.0.0 a.0.0.1 p.1)

abbrev make_checks : ℕ × ℕ → List ℤ → Record
make_checks place locations = checks place.0 place.1 locations

abbrev make_status : ℕ × ℕ → ℕ → Record
make_status place s = status place.0 place.1 s

abbrev make_marked : (ℕ × ℕ) × ℤ → ℕ → Record
make_marked target s = hint_status target.0.0 target.0.1 target.1 s

checks_taken : (bytes : List ℕ) (y : Record × List ℕ) → IsBytes bytes → checks_at bytes ≡ Some y → RecordTaken 1 bytes y
unfolding checks_at
checks_taken = two_taken place_is locations_is make_checks 1 (λ a b. refl) (λ a b h k. (h, k))

release_taken : (bytes : List ℕ) (y : Record × List ℕ) → IsBytes bytes → release_at bytes ≡ Some y → RecordTaken 2 bytes y
unfolding release_at
release_taken = place_taken release 2 (λ team slot. refl) (λ team slot h. h)

collect_taken : (bytes : List ℕ) (y : Record × List ℕ) → IsBytes bytes → collect_at bytes ≡ Some y → RecordTaken 3 bytes y
unfolding collect_at
collect_taken = place_taken collect 3 (λ team slot. refl) (λ team slot h. h)

status_taken : (bytes : List ℕ) (y : Record × List ℕ) → IsBytes bytes → status_at bytes ≡ Some y → RecordTaken 4 bytes y
unfolding status_at
status_taken = two_taken place_is client_status_is make_status 4 (λ a b. refl) (λ a b h k. (h, k))

made_taken : (bytes : List ℕ) (y : Record × List ℕ) → IsBytes bytes → made_at bytes ≡ Some y → RecordTaken 5 bytes y
unfolding made_at
made_taken = two_taken target_is terms_is made 5 (λ a b. refl) (λ a b h k. (h, k.0.1, k.1))

marked_taken : (bytes : List ℕ) (y : Record × List ℕ) → IsBytes bytes → marked_at bytes ≡ Some y → RecordTaken 6 bytes y
unfolding marked_at
marked_taken = two_taken target_is hint_status_is make_marked 6 (λ a b. refl) (λ a b h k. (h, k))

store_taken : (bytes : List ℕ) (y : Record × List ℕ) → IsBytes bytes → store_at bytes ≡ Some y → RecordTaken 7 bytes y
unfolding store_at
store_taken = two_taken key_is value_is store 7 (λ a b. refl) (λ a b h k. (h, k))

-- ---- records

or_next : (kind k : ℕ) (bytes : List ℕ) (here next : Option (Record × List ℕ)) (y : Record × List ℕ) → (here ≡ Some y → RecordTaken k bytes y) → (next ≡ Some y → RecordTaken kind bytes y)
    → cond (eqb kind k) here next ≡ Some y → RecordTaken kind bytes y
or_next kind k bytes here next y h more e =
    let P : Bool → Type 0 = λ b. eqb kind k ≡ b → cond b here next ≡ Some y → RecordTaken kind bytes y in
    let at : P (eqb kind k) =
    elim (eqb kind k) as P [ true ↦ λ is f. subst (λ (n : ℕ). RecordTaken n bytes y) (sym (eqb-true kind k is)) (h f) | false ↦ λ is f. more f ] in
    at refl e

hint_taken : (kind : ℕ) (bytes : List ℕ) (y : Record × List ℕ) → IsBytes bytes → hint_named kind bytes ≡ Some y → RecordTaken kind bytes y
hint_taken kind bytes y b e =
    or_next kind 5 bytes (made_at bytes) _ y (made_taken bytes y b)
    (or_next kind 6 bytes (marked_at bytes) _ y (marked_taken bytes y b)
    (or_next kind 7 bytes (store_at bytes) None y (store_taken bytes y b) (λ f. absurd cc))) e

kind_taken : (kind : ℕ) (bytes : List ℕ) (y : Record × List ℕ) → IsBytes bytes → kind_named kind bytes ≡ Some y → RecordTaken kind bytes y
kind_taken kind bytes y b e =
    or_next kind 1 bytes (checks_at bytes) _ y (checks_taken bytes y b)
    (or_next kind 2 bytes (release_at bytes) _ y (release_taken bytes y b)
    (or_next kind 3 bytes (collect_at bytes) _ y (collect_taken bytes y b)
    (or_next kind 4 bytes (status_at bytes) (hint_named kind bytes) y (status_taken bytes y b) (hint_taken kind bytes y b)))) e

pub record_taken : (bytes : List ℕ) (y : Record × List ℕ) → IsBytes bytes → record_at bytes ≡ Some y → Takes bytes (record_bytes y.0) y.1 × IsRecord y.0
unfolding record_at
record_taken [] y b e = absurd cc
record_taken (kind ∷ bytes) y b e = kind_taken kind bytes y (IsBytes-rest kind bytes b) e

pub record_again : (r : Record) (rest : List ℕ) → IsRecord r → record_at (record_bytes r ++ rest) ≡ Some (r, rest)
unfolding record_at checks_at release_at collect_at status_at made_at marked_at store_at
record_again (checks team slot locations) rest h = two_again place_is locations_is make_checks (team, slot) locations rest h.0 h.1
record_again (release team slot) rest h = ap (λ (r : Option ((ℕ × ℕ) × List ℕ)). r >>= of_place release) (place_is.again (team, slot) rest h)
record_again (collect team slot) rest h = ap (λ (r : Option ((ℕ × ℕ) × List ℕ)). r >>= of_place collect) (place_is.again (team, slot) rest h)
record_again (status team slot s) rest h = two_again place_is client_status_is make_status (team, slot) s rest h.0 h.1
record_again (hint h) rest k =
    two_again target_is terms_is made ((h.team, h.finder), h.location) ((h.bought, h.buyer), h.status) rest k.0 ((tt, k.1), k.2)
record_again (hint_status team finder location s) rest h = two_again target_is hint_status_is make_marked ((team, finder), location) s rest h.0 h.1
record_again (store key value) rest h = two_again key_is value_is store key value rest h.0 h.1

-- no spelling begins another
pub one_spelling : (r s : Record) (x y : List ℕ) → IsRecord r → IsRecord s → record_bytes r ++ x ≡ record_bytes s ++ y → (r ≡ s) × (x ≡ y)
one_spelling r s x y h k e =
    let first : Record × List ℕ = (r, x) in
    let second : Record × List ℕ = (s, y) in
    let same = some_is first second (sym (record_again r x h) ∙ ap record_at e ∙ record_again s y k) in
    (ap (λ (z : Record × List ℕ). z.0) same, ap (λ (z : Record × List ℕ). z.1) same)
