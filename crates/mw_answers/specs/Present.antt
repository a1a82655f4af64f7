-- Who is there.
use Rattle.std.specs.Prelude.{ℕ, ◌+◌, ◌==◌, ◌&&◌, ◌||◌, ◌++◌, ◌∷◌, [], List, Bool, false}
use Rattle.mw_model.specs.Seed.{Slot}
use Rattle.mw_protocol.specs.Connecting.{Member}
use Rattle.mw_protocol.specs.Players.{name_in}
use Rattle.mw_answers.specs.Names.{name_if}

-- the team and the slot that a member plays
abbrev pub played_by : Member → ℕ × ℕ
played_by m = (m.team, m.slot)

-- whether one of these plays a slot of a team
abbrev pub is_there : ℕ → ℕ → List (ℕ × ℕ) → Bool
is_there team slot [] = false
is_there team slot (p ∷ ps) = ((p.0 == team) && (p.1 == slot)) || is_there team slot ps

-- the names of the slots of these numbers, from a slot on
abbrev pub names_of : (ℕ → Bool) → ℕ → ℕ → List Slot → List (List ℕ)
names_of is team number [] = []
names_of is team number (s ∷ ss) =
    name_if (is number) (name_in team s) ++ names_of is team (number + 1) ss
