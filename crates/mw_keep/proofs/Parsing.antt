-- Texts of records are the texts of one list of records alone.
use Rattle.std.proofs.Common.{◌≡◌, ◌++◌, ◌∷◌, [], ℕ, List, true, false, length, refl, sym, ap, ◌∙◌, arith, append_assoc, length-append}
use Rattle.std.specs.Prelude.{IsTrue}
use Rattle.std.proofs.lemmas.Bool.{and_parts, and_from}
use Rattle.std.proofs.lemmas.List.{append-nil}
use Rattle.mw_model.specs.Seed.{Seed}
use Rattle.mw_protocol.specs.Named.{are_named, is_named}
use Rattle.mw_protocol.specs.Records.{Record}
use Rattle.mw_protocol.specs.Spelled.{IsRecord, record_bytes, records_bytes}
use Rattle.mw_records.proofs.Taken.{one_spelling}
use Rattle.mw_keep.specs.Entered.{AreSound, IsBadRecord}
use Rattle.mw_keep.specs.Holds.{AreRecords}
use Rattle.mw_keep.proofs.Appending.{records_some}
use Rattle.mw_keep.proofs.Acting.{both_records}

-- records whose text begins that of others begin these
pub front_parse : (xs ys : List Record) (rest : List ℕ) → AreRecords xs → AreRecords ys → records_bytes xs ++ rest ≡ records_bytes ys
    → (tail : List Record) × (ys ≡ xs ++ tail) × (rest ≡ records_bytes tail) × AreRecords tail
front_parse [] ys rest left right is = (ys, refl, is, right)
front_parse (x ∷ xs) [] rest left right is =
    let none : length (records_bytes (x ∷ xs) ++ rest) ≡ 0 = ap length is in
    absurd (omega (arith, none, length-append (records_bytes (x ∷ xs)) rest, records_some x xs))
front_parse (x ∷ xs) (y ∷ ys) rest left right is =
    let whole : record_bytes x ++ (records_bytes xs ++ rest) ≡ record_bytes y ++ records_bytes ys = sym (append_assoc (record_bytes x) (records_bytes xs) rest) ∙ is in
    let one = one_spelling x y (records_bytes xs ++ rest) (records_bytes ys) left.0 right.0 whole in
    let more = front_parse xs ys rest left.1 right.1 one.1 in
    (more.0, (λ i. sym one.0 i ∷ more.1 i), more.2, more.3)

-- one text, one list
pub one_parse : (xs ys : List Record) → AreRecords xs → AreRecords ys → records_bytes xs ≡ records_bytes ys → xs ≡ ys
one_parse xs ys left right is =
    let more = front_parse xs ys [] left right (append-nil (records_bytes xs) ∙ is) in
    sym (more.1 ∙ ap (λ tail. xs ++ tail) (nothing more.0 more.2) ∙ append-nil xs)
  where
    nothing : (tail : List Record) → [] ≡ records_bytes tail → tail ≡ []
    nothing [] is = refl
    nothing (r ∷ rs) is = let none : 0 ≡ length (records_bytes (r ∷ rs)) = ap length is in absurd (omega (arith, none, records_some r rs))

-- ---- what they name

pub both_named : (seed : Seed) (xs ys : List Record) → IsTrue (are_named seed xs) → IsTrue (are_named seed ys) → IsTrue (are_named seed (xs ++ ys))
both_named seed [] ys left right = right
both_named seed (x ∷ xs) ys left right =
    let parts = and_parts (is_named seed x) (are_named seed xs) left in
    and_from (is_named seed x) (are_named seed (xs ++ ys)) parts.0 (both_named seed xs ys parts.1 right)

pub last_named : (seed : Seed) (xs ys : List Record) → IsTrue (are_named seed (xs ++ ys)) → IsTrue (are_named seed ys)
last_named seed [] ys all = all
last_named seed (x ∷ xs) ys all = last_named seed xs ys (and_parts (is_named seed x) (are_named seed (xs ++ ys)) all).1

pub both_sound : (seed : Seed) (xs ys : List Record) → AreSound seed xs → AreSound seed ys → AreSound seed (xs ++ ys)
both_sound seed xs ys left right = record {
  spelled = both_records xs ys left.spelled right.spelled;
  named = both_named seed xs ys left.named right.named;
}

pub one_sound : (seed : Seed) (r : Record) → IsRecord r → IsTrue (is_named seed r) → AreSound seed (r ∷ [])
one_sound seed r is named = record { spelled = (is, tt); named = and_from (is_named seed r) true named refl }

-- the text of sound records has no bad one
pub none_bad : (seed : Seed) (text : List ℕ) (at : ℕ) (records : List Record) → AreSound seed records → text ≡ records_bytes records
    → IsBadRecord seed text at → ⊥
none_bad seed text at records sound is bad =
    let more = front_parse bad.before records bad.rest bad.sound.spelled sound.spelled (sym bad.layout ∙ is) in
    not_here more.0 more.2 more.3 (last_named seed bad.before more.0 (ap (are_named seed) (sym more.1) ∙ sound.named))
  where
    not_here : (tail : List Record) → bad.rest ≡ records_bytes tail → AreRecords tail → IsTrue (are_named seed tail) → ⊥
    not_here [] rest spelled named = bad.some rest
    not_here (r ∷ rs) rest spelled named =
        let unnamed = bad.bad r (records_bytes rs) spelled.0 rest in
        let known = (and_parts (is_named seed r) (are_named seed rs) named).0 in
        let no : true ≡ false = sym known ∙ unnamed in absurd cc
