-- Rows of numerals beside the definitions.
use Rattle.std.specs.Prelude.{◌≡◌, codes, true, false, refl}
use Rattle.std.specs.Fmt.{digits}
use Rattle.json.specs.Word.{after_number}
use Rattle.mw_numerals.specs.Numerals.{is_kept}

pub a_whole_number : is_kept (codes "-17") ≡ false
unfolding after_number digits
a_whole_number = refl

pub the_greatest : is_kept (codes "18446744073709551615") ≡ false
unfolding after_number digits
the_greatest = refl

pub one_more : is_kept (codes "18446744073709551616") ≡ true
unfolding after_number digits
one_more = refl

pub the_least : is_kept (codes "-9223372036854775808") ≡ false
unfolding after_number digits
the_least = refl

pub one_less : is_kept (codes "-9223372036854775809") ≡ true
unfolding after_number digits
one_less = refl

pub minus_nought : is_kept (codes "-0") ≡ true
unfolding after_number digits
minus_nought = refl

pub a_fraction : is_kept (codes "1.50") ≡ true
unfolding after_number digits
a_fraction = refl

pub an_exponent : is_kept (codes "1e400") ≡ true
unfolding after_number digits
an_exponent = refl

pub two_noughts : is_kept (codes "00") ≡ false
unfolding after_number digits
two_noughts = refl

pub a_bare_point : is_kept (codes "1.") ≡ false
unfolding after_number digits
a_bare_point = refl
