-- Locations that a seed has.
use Rattle.std.proofs.Common.{◌≡◌, ℕ, ℤ, ◌&&◌, true, false, cond, List, [], ◌∷◌, is_some, refl, ap}
use Rattle.mw_model.specs.Seed.{Seed, held_at}
use Rattle.mw_protocol.specs.Checks.{Check, checks_at}
use Rattle.mw_protocol.specs.Named.{has_locations}
use Rattle.mw_checks.specs.Fresh.{known_checks}

-- locations that the seed has are all known
pub known_all : (seed : Seed) (team slot : ℕ) (ls : List ℤ) → has_locations seed slot ls ≡ true → known_checks seed (checks_at team slot ls) ≡ checks_at team slot ls
known_all seed team slot [] h = refl
known_all seed team slot (l ∷ ls) h =
    let check : Check = record { team = team; slot = slot; location = l } in
    let rest = known_checks seed (checks_at team slot ls) in
    (elim (is_some (held_at seed slot l)) as (λ b. (b && has_locations seed slot ls) ≡ true → cond b (check ∷ rest) rest ≡ check ∷ checks_at team slot ls) [
      | true ↦ (λ e. ap (λ (cs : List Check). check ∷ cs) (known_all seed team slot ls e))
      | false ↦ (λ e. cc)
    ]) h
