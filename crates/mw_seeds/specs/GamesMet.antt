-- For proofs alone: the different games of slots, gathered one after the other.
use Rattle.std.specs.Prelude.{◌≡◌, ◌++◌, ◌||◌, Bool, false, bytes_eq, ℕ, List, [], ◌∷◌, All, map}
use Rattle.std.specs.Bool.{MatchBool}
use Rattle.mw_model.specs.Seed.{Game}
use Rattle.mw_multi.specs.World.{World}
use Rattle.mw_multi.specs.Joint.{Slot}
use Rattle.mw_multi.specs.Names.{NamesDiffer}
use Rattle.mw_multidata.specs.SeedKept.{game_name}
use Rattle.mw_seeds.specs.SeedFile.{IsGameOf, IsPlayed, HasGameOf}

-- a game of this name is among them
abbrev pub has_game : List Game → List ℕ → Bool
has_game [] name = false
has_game (g ∷ gs) name = bytes_eq g.name name || has_game gs name

-- the game of a world more, where it isn't there yet
abbrev pub IsGameAdded : List Game → World → List Game → Type 0
IsGameAdded before w after =
    MatchBool (has_game before w.game) (after ≡ before)
    ((g : Game) × IsGameOf w g × (after ≡ before ++ g ∷ []))

-- the different games of the slots' worlds
pub record AreDifferent (slots : List Slot) (games : List Game) : Type 0 where
  pub differ : NamesDiffer (map game_name games)
  pub played : All (IsPlayed slots) games
  pub all : All (HasGameOf games) slots
