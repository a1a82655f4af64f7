-- Who gets what new checks found.
use Rattle.std.specs.Prelude.{ℕ, ℤ, ◌||◌, ◌++◌, ◌∷◌, [], List, Bool, false, Option, Some, None}
use Rattle.mw_model.specs.Seed.{Seed, Held, held_at, is_owner}

-- who gets what stands at a location, if something does
abbrev pub receiver_of : Option Held → List ℕ
receiver_of None = []
receiver_of (Some held) = held.receiver ∷ []

-- for each of the locations, in order
abbrev pub receivers_in : Seed → List (ℕ × ℤ) → List ℕ
receivers_in seed [] = []
receivers_in seed (pair ∷ pairs) =
    receiver_of (held_at seed pair.0 pair.1) ++ receivers_in seed pairs

-- whether a slot is among the owners of one of them
abbrev pub owns_one : Seed → List ℕ → ℕ → Bool
owns_one seed [] slot = false
owns_one seed (receiver ∷ others) slot = is_owner seed receiver slot || owns_one seed others slot
