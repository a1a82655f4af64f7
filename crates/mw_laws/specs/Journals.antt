-- The journal of a room.
use Rattle.std.specs.Prelude.{◌≡◌, ◌++◌, List}
use mathlib.Core.List.{IsPrefix}
use Rattle.mw_model.specs.Seed.{Seed}
use Rattle.mw_laws.specs.Turns.{Turn, room_after}

-- whatever happens a room keeps its seed, and its journal only grows at its end, so that what is said of longer journals is said of later rooms
pub record JournalsGrow : Type 0 where
  pub seed : (seed : Seed) (turns : List Turn) → (room_after seed turns).seed ≡ seed
  pub grows : (seed : Seed) (turns more : List Turn)
      → IsPrefix (room_after seed turns).journal (room_after seed (turns ++ more)).journal
