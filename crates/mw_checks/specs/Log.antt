-- What callers see of a log, and what they give it.
use Rattle.std.specs.Prelude.{◌≡◌, ℕ, ℤ, ◌+◌, ◌≤◌, ◌++◌, List, [], ◌∷◌, true, false, is_some, filter, length, map, vec_capacity, MatchOption}
use Rattle.mw_model.specs.Items.{NetItem}
use Rattle.mw_model.specs.Seed.{Seed, held_at}
use Rattle.mw_protocol.specs.Checks.{Check, has_check, items_found, keeps, view_in}
use Rattle.mw_checks.specs.declared.growth.CheckGrowth.{CheckGrowth}

-- the seed, the distinct checks in order, and how many there is memory for
pub record Log : Type 0 where
  pub seed : Seed
  pub checked : List Check
  pub space : ℕ

-- what a mask keeps of what a slot received in a team
abbrev pub view_of : Log → ℕ → ℕ → ℕ → List NetItem
view_of log mask team slot = view_in log.seed mask team slot log.checked

-- a slot and a location, checked in a team
abbrev pub check_of : ℕ → ℕ × ℤ → Check
check_of team pair = record { team = team; slot = pair.0; location = pair.1 }

abbrev pub checks_of : ℕ → List (ℕ × ℤ) → List Check
checks_of team pairs = map (check_of team) pairs

-- what a mask keeps of the items that pairs, once they are checked in a team, give to a slot of it
abbrev pub given_by : Log → ℕ → ℕ → ℕ → List (ℕ × ℤ) → List NetItem
given_by log mask team slot pairs =
    filter (keeps mask slot) (items_found log.seed team slot (checks_of team pairs))

-- each is a location of its slot, and isn't checked, neither before nor earlier in the list
abbrev pub AreFresh : Seed → List Check → ℕ → List (ℕ × ℤ) → Type 0
AreFresh seed checked team [] = Unit {0}
AreFresh seed checked team (pair ∷ pairs) =
    (is_some (held_at seed pair.0 pair.1) ≡ true)
    × ((has_check checked (check_of team pair) ≡ false)
    × AreFresh seed (checked ++ check_of team pair ∷ []) team pairs)

-- the growth was made of this log, for at least so many checks more
pub record HasLogRoom (log : Log) (growth : CheckGrowth) (more : ℕ) : Type 0 where
  pub order : MatchOption growth.order.buffer (length log.checked + more ≤ log.space)
      (λ b. (b.items ≡ []) × (length log.checked + more ≤ vec_capacity b))
  pub empty : growth.checks.items ≡ []
  pub checks : more ≤ vec_capacity growth.checks
