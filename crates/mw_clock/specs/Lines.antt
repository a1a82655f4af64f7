-- A command line, and the words that ask for it.
use Rattle.std.specs.Prelude.{ℕ, List}
use Rattle.mw_clock.specs.Words.{IsGenerate, IsTables}
use Rattle.mw_clock.specs.declared.line.ClockLine.{ClockLine}
use Rattle.mw_clock.specs.declared.line.ClockLine.TheVariants.{Generate, Tables}

-- the words ask for this
abbrev pub AsksFor : List (List ℕ) → ClockLine → Type 0
AsksFor words (Generate gears seed out_name) =
    IsGenerate words record { gears = gears; seed = seed; out_name = out_name.now }
AsksFor words (Tables gears world_name players_name) =
    IsTables words record {
      gears = gears;
      world_name = world_name.now;
      players_name = players_name.now;
    }
