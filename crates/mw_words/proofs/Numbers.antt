-- Words that are numbers in decimal.
use Rattle.std.proofs.Common.{◌≡◌, ◌<◌, ◌^◌, ℕ, zero, suc, List, Result, Ok, decimal, length, slice_index, sym, subst, inl, inr, arith}
use Rattle.std.specs.Str.Parse.{AllDigits, ParsesUnsigned, digits_value}
use Rattle.std.proofs.lemmas.Str.Parse.{IsNumeralModel, numerals_by_value, parse_plain, tells_digits}
use Rattle.std.proofs.lemmas.Fmt.{decimal_digit, first_decimal, decimal-digits_value, parse-decimal}
use Rattle.mw_words.specs.Numbers.{BeginsAmiss}

digits : IsNumeralModel (AllDigits 10) (digits_value 10)
digits = numerals_by_value (AllDigits 10) tells_digits

begins_well : (n : ℕ) → n < 2 ^ 64 → BeginsAmiss (decimal n) → ⊥
begins_well zero small amiss = elim (subst BeginsAmiss (decimal_digit 0 (omega arith)) amiss) [ inl plus ↦ omega arith | inr more ↦ omega arith ]
begins_well (suc n) small amiss =
    let first = first_decimal (suc n) (omega arith) small in
    elim amiss [ inl plus ↦ omega arith | inr more ↦ omega arith ]

-- no number begins amiss
pub amiss_is_none : (n : ℕ) (word : List ℕ) → n < 2 ^ 64 → BeginsAmiss word → word ≡ decimal n → ⊥
amiss_is_none n word small amiss is = begins_well n small (subst BeginsAmiss is amiss)

-- what is read of other words is the number that they are
pub read_is : {E : Type 0} (r : Result ℕ E) (n : ℕ) (word : List ℕ) → ParsesUnsigned 64 10 word r → r ≡ Ok n → (BeginsAmiss word → ⊥) → word ≡ decimal n
read_is {E = E} r n word h is well =
    let plain = parse_plain digits {E = E} 64 word (Ok n) (subst (ParsesUnsigned 64 10 word) is h) (λ plus. well (inl plus)) in
    let alone : slice_index word 0 ≡ 48 → length word ≡ 1 = λ zero_first. grind (arith, well) in
    sym (subst (λ v. decimal v ≡ word) (sym plain.1) (decimal-digits_value digits word plain.0.0 plain.0.1 alone plain.0.2))

-- a number is read as itself
pub read_back : {E : Type 0} (r : Result ℕ E) (n : ℕ) (word : List ℕ) → ParsesUnsigned 64 10 word r → n < 2 ^ 64 → word ≡ decimal n → r ≡ Ok n
read_back r n word h small is = parse-decimal 64 n word r small small is h
