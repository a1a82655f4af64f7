-- Where a record begins, and where it ends.
use Rattle.std.proofs.Common.{◌≡◌, ℕ, ◌+◌, ◌-◌, ◌≤◌, List, ◌++◌, length, drop, Some, None, refl, sym, ap, ◌∙◌, arith, length-append, length-drop}
use Rattle.std.proofs.lemmas.List.{drop_at, drop-drop}
use Rattle.mw_protocol.specs.Records.{Record}
use Rattle.mw_protocol.specs.Spelled.{record_bytes, Begins, Spells}
use Rattle.mw_records.specs.Reading.{record_at}
use Rattle.mw_records.proofs.Spelling.{IsBytes, IsBytes-drop}
use Rattle.mw_records.proofs.Taken.{record_taken, record_again}

total : (bytes text rest : List ℕ) (at : ℕ) → at ≤ length bytes → drop at bytes ≡ text ++ rest → length bytes ≡ at + length text + length rest
total bytes text rest at within parts =
    let len : length (drop at bytes) ≡ length text + length rest = ap length parts ∙ length-append text rest in
    omega (arith, within, len, length-drop at bytes)

pub no_longer : (bytes : List ℕ) (at : ℕ) (r : Record) (rest : List ℕ) → IsBytes bytes → at ≤ length bytes → record_at (drop at bytes) ≡ Some (r, rest) → length rest ≤ length bytes
no_longer bytes at r rest b within e =
    let t = record_taken (drop at bytes) (r, rest) (IsBytes-drop at bytes b) e in
    omega (arith, total bytes (record_bytes r) rest at within t.0.parts)

pub spells : (bytes : List ℕ) (at : ℕ) (r : Record) (rest : List ℕ) → IsBytes bytes → at ≤ length bytes → record_at (drop at bytes) ≡ Some (r, rest) → Spells bytes at (length bytes - length rest) r
spells bytes at r rest b within e =
    let t = record_taken (drop at bytes) (r, rest) (IsBytes-drop at bytes b) e in
    let ends : length bytes - length rest ≡ at + length (record_bytes r) = omega (arith, total bytes (record_bytes r) rest at within t.0.parts) in
    let after : drop (length bytes - length rest) bytes ≡ rest =
    ap (λ (n : ℕ). drop n bytes) ends ∙ sym (drop-drop (length (record_bytes r)) at bytes) ∙ ap (drop (length (record_bytes r))) t.0.parts ∙ drop_at (record_bytes r) rest (length (record_bytes r)) refl in
    record { is_record = t.1; here = t.0.parts ∙ ap (λ (x : List ℕ). record_bytes r ++ x) (sym after); ends = ends }

pub none_begins : (bytes : List ℕ) (at : ℕ) → record_at (drop at bytes) ≡ None → (r : Record) → Begins bytes at r → ⊥
none_begins bytes at none r b =
    let some : record_at (drop at bytes) ≡ Some (r, b.rest) = ap record_at b.here ∙ record_again r b.rest b.is_record in
    cc
