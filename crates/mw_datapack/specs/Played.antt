-- The games that slots play.
use Rattle.std.specs.Prelude.{ℕ, List, Option, None, if◌then◌else◌}
use Rattle.mw_protocol.specs.Players.{plays}
use Rattle.mw_model.specs.Seed.{Game, Seed}
use Rattle.mw_multidata.specs.Names.{find_game}

-- the game of a name, where some slot plays it
abbrev pub game_played : Seed → List ℕ → Option Game
game_played seed name = if plays seed.slots name then find_game seed.games name else None
