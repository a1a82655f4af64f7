-- What is true of the tables that `tables` writes, whoever reads them.
use Rattle.std.specs.Prelude.{◌≡◌, ℕ, List, Some}
use Rattle.mw_multi.specs.Joint.{Joint}
use Rattle.mw_causes.specs.Tables.{Files, JointIn}
use Rattle.mw_clock.specs.Clockwork.{IsSize}
use Rattle.mw_clock.specs.Words.{TableWords}
use Rattle.mw_clock.specs.Tabled.{AreTables}
use Rattle.mw_clock.specs.Seeds.{IsClockJoint}

-- files that hold the tables of so many gears are joined to the joint of that world
abbrev pub TablesJoin : Type 0
TablesJoin =
    (files : Files) (asked : TableWords) (world played : List ℕ) (joint : Joint)
    → IsSize asked.gears → AreTables asked world played → files asked.world_name ≡ Some (Some world)
    → files asked.players_name ≡ Some (Some played) → JointIn files asked.players_name joint
    → IsClockJoint asked.gears joint
