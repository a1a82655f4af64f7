-- How the records of a text are read, one after another.
use Rattle.std.proofs.Common.{◌≡◌, ◌≤◌, ◌<◌, ◌++◌, ◌∷◌, [], ℕ, List, length, drop, refl, sym, ap, ap₂, subst, ◌∙◌, arith, append_assoc, length-append, length-drop}
use Rattle.std.proofs.lemmas.List.{append-nil}
use Rattle.std.proofs.lemmas.List.Concat.{flat_map-append}
use Rattle.mw_protocol.specs.Records.{Record, checks, release, collect, status, hint, hint_status, store}
use Rattle.mw_protocol.specs.Spelled.{Begins, Spells, record_bytes, records_bytes}
use Rattle.mw_records.specs.declared.error.RecordError.{RecordError}
use Rattle.mw_records.specs.declared.error.RecordError.TheVariants.{BadRecord, Memory}
use Rattle.mw_records.proofs.Taken.{one_spelling}
use Rattle.mw_checkpoint.specs.Whole.{AreRecords, IsBadText, RefusesWhole}

pub some_bytes : (r : Record) → 1 ≤ length (record_bytes r)
some_bytes (checks team slot locations) = omega arith
some_bytes (release team slot) = omega arith
some_bytes (collect team slot) = omega arith
some_bytes (status team slot number) = omega arith
some_bytes (hint h) = omega arith
some_bytes (hint_status team finder location number) = omega arith
some_bytes (store key value) = omega arith

pub bytes_joined : (xs ys : List Record) → records_bytes (xs ++ ys) ≡ records_bytes xs ++ records_bytes ys
bytes_joined xs ys = flat_map-append record_bytes xs ys

pub both_records : (xs ys : List Record) → AreRecords xs → AreRecords ys → AreRecords (xs ++ ys)
both_records [] ys left right = right
both_records (x ∷ xs) ys left right = (left.0, both_records xs ys left.1 right)

-- one text is that of one list of records
pub one_parse : (xs ys : List Record) → AreRecords xs → AreRecords ys → records_bytes xs ≡ records_bytes ys → xs ≡ ys
one_parse [] [] left right is = refl
one_parse [] (y ∷ ys) left right is =
    let none : length (records_bytes (y ∷ ys)) ≡ 0 = ap length (sym is) in
    absurd (omega (arith, none, some_bytes y, length-append (record_bytes y) (records_bytes ys)))
one_parse (x ∷ xs) [] left right is =
    let none : length (records_bytes (x ∷ xs)) ≡ 0 = ap length is in
    absurd (omega (arith, none, some_bytes x, length-append (record_bytes x) (records_bytes xs)))
one_parse (x ∷ xs) (y ∷ ys) left right is =
    let one = one_spelling x y (records_bytes xs) (records_bytes ys) left.0 right.0 is in
    ap₂ (λ r rs. r ∷ rs) one.0 (one_parse xs ys left.1 right.1 one.1)

-- the bytes of a text up to a place spell records
pub record HasRead (text : List ℕ) (at : ℕ) (records : List Record) : Type 0 where
  pub spelled : AreRecords records
  pub layout : text ≡ records_bytes records ++ drop at text
  pub place : at ≡ length (records_bytes records)

pub none_read : (text : List ℕ) → HasRead text 0 []
none_read text = record { spelled = tt; layout = refl; place = refl }

pub one_more : (text : List ℕ) (at next : ℕ) (records : List Record) (r : Record) → HasRead text at records → Spells text at next r
    → HasRead text next (records ++ r ∷ [])
one_more text at next records r h spells =
    let one : records_bytes (r ∷ []) ≡ record_bytes r = append-nil (record_bytes r) in
    let joined : records_bytes (records ++ r ∷ []) ≡ records_bytes records ++ record_bytes r =
    bytes_joined records (r ∷ []) ∙ ap (λ l. records_bytes records ++ l) one in record {
      spelled = both_records records (r ∷ []) h.spelled (spells.is_record, tt);
      layout = h.layout ∙ ap (λ l. records_bytes records ++ l) spells.here
          ∙ sym (append_assoc (records_bytes records) (record_bytes r) (drop next text))
          ∙ ap (λ l. l ++ drop next text) (sym joined);
      place = omega (arith, spells.ends, h.place, ap length joined, length-append (records_bytes records) (record_bytes r));
    }

pub bad_here : (text : List ℕ) (at : ℕ) (records : List Record) → HasRead text at records → at < length text
    → ((r : Record) → Begins text at r → ⊥) → IsBadText text at
bad_here text at records h short bad = record {
  before = records;
  rest = drop at text;
  layout = h.layout;
  records = h.spelled;
  place = h.place;
  some = λ none. let nothing : length (drop at text) ≡ 0 = ap length none in absurd (omega (arith, nothing, short, length-drop at text));
  bad = λ r more is here. bad r record { is_record = is; rest = more; here = here };
}

-- a text that is read to its end is that of its records
pub whole_text : (text : List ℕ) (at : ℕ) (records : List Record) → HasRead text at records → length text ≤ at → text ≡ records_bytes records
whole_text text at records h end = h.layout ∙ ap (λ l. records_bytes records ++ l) (nothing_left text at end) ∙ append-nil (records_bytes records)
  where
    nothing_left : (xs : List ℕ) (n : ℕ) → length xs ≤ n → drop n xs ≡ []
    nothing_left xs n le = none_long (drop n xs) (omega (arith, le, length-drop n xs))
      where
        none_long : (ys : List ℕ) → length ys ≡ 0 → ys ≡ []
        none_long [] is = refl
        none_long (y ∷ ys) is = absurd (omega (arith, is))

-- why no more are read
pub read_refuses : (text : List ℕ) (at : ℕ) (records : List Record) (error : RecordError) → HasRead text at records → at < length text
    → ((p : ℕ) → error ≡ BadRecord p → (p ≡ at) × ((r : Record) → Begins text at r → ⊥)) → RefusesWhole text error
read_refuses text at records (BadRecord p) h short bad =
    let b = bad p refl in
    subst (IsBadText text) (sym b.0) (bad_here text at records h short b.1)
read_refuses text at records Memory h short bad = tt
