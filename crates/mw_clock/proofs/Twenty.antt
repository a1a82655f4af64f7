-- What holds of each number from 1 to 20 because each of them was tried.
use Rattle.std.proofs.Common.{◌≡◌, ◌<◌, ◌≤◌, ℕ, zero, suc, true, false, nat_le, refl, subst, arith}
use Rattle.std.proofs.lemmas.Grind.{common_steps}
use Rattle.mw_clock.specs.Clockwork.{IsSize}

-- it holds from 1 up to this number
abbrev pub UpTo : (ℕ → Type 0) → ℕ → Type 0
UpTo P zero = Unit {0}
UpTo P (suc n) = UpTo P n × P (suc n)

below : (n most : ℕ) → nat_le n most ≡ true → n ≤ most
below n most h = grind (arith, common_steps)

last : (n most : ℕ) → nat_le n most ≡ false → n ≤ suc most → suc most ≡ n
last n most h high = let over : most < n = grind (arith, common_steps) in omega arith

one_of : (P : ℕ → Type 0) (most n : ℕ) → UpTo P most → 1 ≤ n → n ≤ most → P n
one_of P zero n all low high = absurd (omega arith)
one_of P (suc most) n all low high =
    elim (nat_le n most) as (λ b. nat_le n most ≡ b → P n) [
      | true ↦ λ h. one_of P most n all.0 low (below n most h)
      | false ↦ λ h. subst P (last n most h high) all.1
    ] refl

pub each : (P : ℕ → Type 0) (n : ℕ) → UpTo P 20 → IsSize n → P n
each P n all size = one_of P 20 n all size.low size.high
