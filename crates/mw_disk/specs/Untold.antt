-- What a disk tells that tells nothing.
use Rattle.std.specs.Prelude.{◌≡◌, ℕ, List, Option, Some, None, IsTrue, false}
use Rattle.std.proofs.Common.{subst, sym}

-- no bytes
abbrev pub no_bytes : Option (List ℕ)
no_bytes = None

-- no image
abbrev pub no_image : List ℕ → Type 0
no_image c = ⊥

abbrev pub no_image_since : ℕ → List ℕ → Type 0
no_image_since t c = ⊥

abbrev is_told : Option (List ℕ) → Type 0
is_told None = ⊥
is_told (Some bytes) = Unit {0}

pub none_told : (c : List ℕ) → no_bytes ≡ Some c → ⊥
none_told c is = subst is_told (sym is) tt

-- what is false isn't true
pub never_true : {T : Type 0} → IsTrue false → T
never_true is = absurd cc
