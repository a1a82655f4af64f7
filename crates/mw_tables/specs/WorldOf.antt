-- What a world file stands for: a world, or the first refusal.
use Rattle.std.specs.Prelude.{ℕ, List, Result, Ok}
use Rattle.mw_model.specs.Json.{Json}
use Rattle.mw_json.specs.Grammar.{Breach, ◌>>=◌}
use Rattle.mw_json.specs.Files.{FileOf}
use Rattle.mw_multi.specs.World.{World}
use Rattle.mw_tables.specs.Raw.{RawWorld}
use Rattle.mw_tables.specs.WorldShape.{world_shape_at}
use Rattle.mw_tables.specs.WorldNames.{NamedWorld, world_names}

-- the world of these tables and of what their names stand for
abbrev pub resolved : RawWorld → NamedWorld → World
resolved w n =
    record {
      game = w.game;
      origin = n.origin;
      regions = w.regions;
      entrances = n.entrances;
      locations = n.locations;
      items = w.items;
      pool = n.pool;
      filler = n.filler;
      goal = n.goal;
    }

-- its shape, then its names
unfoldable pub world_at : Json → Result World Breach
world_at j = do
  w ← world_shape_at j
  n ← world_names w
  Ok (resolved w n)

abbrev pub WorldOf : List ℕ → Result World Breach → Type 0
WorldOf bytes outcome = FileOf world_at bytes outcome
