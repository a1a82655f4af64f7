-- Whole numbers and how they are written.
use Rattle.std.proofs.Common.{◌≡◌, ℕ, ℤ, pos, negsuc, suc, ◌<◌, ◌≤◌, ◌^◌, ◌==◌, ◌&&◌, true, false, not, List, [], Option, Some, None, length, get_or, refl, sym, ap, ◌∙◌, subst, arith, inl, inr, ◌⊎◌, decimal, neg_ℤ}
use Rattle.std.proofs.lemmas.Bool.{and_parts, ltb-true, ne_eqb, eqb-true, true≢false, false≢true, not-true, and_from, false_from_ne_true, cases_lt}
use Rattle.std.proofs.lemmas.Fmt.{decimal_is_IsNumeral, decimal_nonempty}
use Rattle.std.proofs.lemmas.Str.Parse.{digit_at}
use Rattle.std.proofs.lemmas.Slice.Eq.{bytes_eq-Decides}
use Rattle.std.specs.Fmt.{signed_decimal}
use Rattle.std.specs.Str.Parse.{IsNumeral, without_leading_sign, without_leading_plus, starts_with_minus, signed_digits_value, digits_value}
use Rattle.std.proofs.lemmas.Grind.{common_steps}
use Rattle.std.proofs.lemmas.List.{nil_from_length, get_or_past}
use Rattle.std.proofs.lemmas.List.Sums.{AllPass-from_list_all}
use Rattle.std.specs.List.{list_all}
use Rattle.std.specs.Str.{IsAscii, bytes_eq}
use mir.Syntax.{w128}
use mir.Val.{SFits}
use Rattle.json.specs.Word.{after_number}
use Rattle.json.specs.Print.{IsNumber}
use Rattle.mw_numerals.specs.Laws.{TellsNumerals}
use Rattle.mw_numerals.specs.Numerals.{is_numeral_byte, is_all, is_number, is_in_range, is_whole, is_kept}

no_sign : (n : ℕ) → n < 2 ^ 64 → (starts_with_minus (decimal n) ≡ false) × ((get_or (decimal n) 0 0 == 43) ≡ false)
no_sign n h =
    let digit = digit_at (decimal n) 0 (decimal_is_IsNumeral n h).0.1 (decimal_nonempty n h) in
    (ne_eqb (get_or (decimal n) 0 0) 45 (λ e. omega (arith, digit.0)), ne_eqb (get_or (decimal n) 0 0) 43 (λ e. omega (arith, digit.0)))

plain : (n : ℕ) → n < 2 ^ 64 → without_leading_plus (decimal n) ≡ decimal n
plain n h = rw (no_sign n h).1 refl

bare : (n : ℕ) → n < 2 ^ 64 → without_leading_sign (decimal n) ≡ decimal n
bare n h = rw (no_sign n h).0 (plain n h)

-- what a number in range is written as is read again
pub record IsRead (z : ℤ) : Type 0 where
  pub numeral : IsNumeral 10 (without_leading_sign (signed_decimal z))
  pub value : signed_digits_value 10 (signed_decimal z) ≡ z

pub is_read : (z : ℤ) → is_in_range z ≡ true → IsRead z
is_read (pos n) h =
    let small = ltb-true n (2 ^ 64) h in
    let e = bare n small in
    let d = decimal_is_IsNumeral n small in
    record { numeral = subst (IsNumeral 10) (sym e) d.0; value = rw (no_sign n small).0 (ap pos (ap (digits_value 10) (plain n small) ∙ d.1)) }
is_read (negsuc n) h =
    let small : suc n < 2 ^ 64 = omega (arith, ltb-true n (2 ^ 63) h) in
    let d = decimal_is_IsNumeral (suc n) small in
    record { numeral = d.0; value = ap (λ k. neg_ℤ (pos k)) d.1 }

-- a whole numeral is what some number in range is written as
pub whole_number : (s : List ℕ) → is_whole s ≡ true → (is_in_range (signed_digits_value 10 s) ≡ true) × (signed_decimal (signed_digits_value 10 s) ≡ s)
whole_number s h =
    let parts = and_parts (is_in_range (signed_digits_value 10 s)) _ h in
    (parts.0, (bytes_eq-Decides (signed_decimal (signed_digits_value 10 s)) s).0 parts.1)

-- what a number in range is written as is a whole numeral
pub written_is_whole : (z : ℤ) → is_in_range z ≡ true → is_whole (signed_decimal z) ≡ true
written_is_whole z h =
    let value : signed_digits_value 10 (signed_decimal z) ≡ z = (is_read z h).value in
    let same : bytes_eq (signed_decimal z) (signed_decimal z) ≡ true = (bytes_eq-Decides (signed_decimal z) (signed_decimal z)).1 refl in
    ap (λ k. is_in_range k && bytes_eq (signed_decimal k) (signed_decimal z)) value ∙ and_from (is_in_range z) _ h same

-- what can't be read is what no number in range is written as
pub not_whole : (s : List ℕ) → ¬ (IsNumeral 10 (without_leading_sign s) × SFits w128 (signed_digits_value 10 s)) → false ≡ is_whole s
not_whole s h = sym (false_from_ne_true (is_whole s) (λ e.
    let w = whole_number s e in
    let z = signed_digits_value 10 s in
    h (subst (λ t. IsNumeral 10 (without_leading_sign t)) w.1 (is_read z w.0).numeral, fits z w.0)))
  where
    fits : (z : ℤ) → is_in_range z ≡ true → SFits w128 z
    fits (pos n) e = let small = ltb-true n (2 ^ 64) e in omega arith
    fits (negsuc n) e = let small = ltb-true n (2 ^ 63) e in omega arith

-- ---- the grammar of numbers

pub number_from : (s : List ℕ) → IsNumber s → is_number s ≡ true
number_from s h = ap is_all h

pub number_is : (s : List ℕ) → is_number s ≡ true → IsNumber s
number_is s h = by_rest (after_number s) h
  where
    by_rest : (o : Option (List ℕ)) → is_all o ≡ true → o ≡ Some []
    by_rest None e = absurd (false≢true e)
    by_rest (Some rest) e = ap Some (nil_from_length rest (eqb-true (length rest) 0 e))

pub not_kept : (s : List ℕ) → (IsNumber s → ⊥) → is_kept s ≡ false
not_kept s h = ap (λ b. b && not (is_whole s)) (false_from_ne_true (is_number s) (λ e. h (number_is s e)))

pub tells_numerals : TellsNumerals
tells_numerals s = (told, kept)
  where
    told : is_kept s ≡ true → IsNumber s × ((z : ℤ) → is_in_range z ≡ true → signed_decimal z ≡ s → ⊥)
    told h =
        let parts = and_parts (is_number s) (not (is_whole s)) h in
        (number_is s parts.0, λ z r e. true≢false (sym (written_is_whole z r) ∙ ap is_whole e ∙ not-true (is_whole s) parts.1))

    kept : IsNumber s × ((z : ℤ) → is_in_range z ≡ true → signed_decimal z ≡ s → ⊥) → is_kept s ≡ true
    kept h =
        let never : is_whole s ≡ false = false_from_ne_true (is_whole s) (λ e. let w = whole_number s e in h.1 (signed_digits_value 10 s) w.0 w.1) in
        and_from (is_number s) (not (is_whole s)) (number_from s h.0) (ap not never)

-- ---- their bytes are ASCII

pub ascii_byte : (x : ℕ) → is_numeral_byte x ≡ true → x < 128
ascii_byte x h = grind (arith, common_steps, h)

pub ascii_run : (s : List ℕ) → list_all is_numeral_byte s ≡ true → IsAscii s
ascii_run s h = λ i. by_place i (cases_lt i (length s))
  where
    by_place : (i : ℕ) → (i < length s) ⊎ (length s ≤ i) → get_or s i 0 < 128
    by_place i (inl lt) = ascii_byte (get_or s i 0) (AllPass-from_list_all is_numeral_byte s h i 0 lt)
    by_place i (inr past) = let none : get_or s i 0 ≡ 0 = get_or_past s i 0 past in omega arith
