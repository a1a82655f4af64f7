-- Members that an effect may owe something, though they didn't send it.
use Rattle.std.specs.Prelude.{ℕ, ℤ, ◌==◌, ◌||◌, ◌∷◌, [], List, Bool, false}
use Rattle.mw_model.specs.Seed.{Seed}
use Rattle.mw_protocol.specs.Connecting.{Member}
use Rattle.mw_protocol.specs.Heard.{Announced, hears}

-- whether the member hears something of what is told
abbrev pub hears_some : Seed → List Announced → Member → Bool
hears_some seed [] m = false
hears_some seed (told ∷ others) m =
    hears seed told.audience false m || hears_some seed others m

-- whether one of the locations is a slot's
abbrev pub is_finder : List (ℕ × ℤ) → ℕ → Bool
is_finder [] slot = false
is_finder (pair ∷ pairs) slot = (pair.0 == slot) || is_finder pairs slot
