-- How a whole number is spelled, whatever its sign.
use Rattle.std.proofs.Common.{◌≡◌, ℤ, pos, negsuc, refl}
use Rattle.std.specs.Fmt.{signed_decimal}
use Rattle.mw_model.specs.Spelling.{number_text}

pub number_is : (z : ℤ) → signed_decimal z ≡ number_text z
number_is (pos n) = refl
number_is (negsuc n) = refl
