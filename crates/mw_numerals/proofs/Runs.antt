-- What a byte of a numeral is not.
use Rattle.std.proofs.Common.{◌≡◌, ℕ, List, [], ◌∷◌, true, false, ◌==◌, refl, sym, ap, ◌∙◌}
use Rattle.std.proofs.lemmas.Bool.{and_parts, ne_eqb, false≢true}
use Rattle.std.specs.List.{list_all}
use Rattle.mw_numerals.specs.Numerals.{is_numeral_byte}
use Rattle.mw_numerals.specs.Pieces.{closes, escapes, has_no_end, escaped_after}

pub differs : (x c : ℕ) → is_numeral_byte x ≡ true → is_numeral_byte c ≡ false → (x == c) ≡ false
differs x c h k = ne_eqb x c (λ e. false≢true (sym k ∙ ap is_numeral_byte (sym e) ∙ h))

-- no string ends within them, and none of them escapes
pub run_inside : (s : List ℕ) → list_all is_numeral_byte s ≡ true → (has_no_end false s ≡ true) × (escaped_after false s ≡ false)
run_inside [] h = (refl, refl)
run_inside (x ∷ s) h =
    let parts = and_parts (is_numeral_byte x) (list_all is_numeral_byte s) h in
    let others = run_inside s parts.1 in
    let quote : closes false x ≡ false = differs x 34 parts.0 refl in
    let backslash : escapes false x ≡ false = differs x 92 parts.0 refl in
    (rw (quote, backslash) others.0, rw backslash others.1)
