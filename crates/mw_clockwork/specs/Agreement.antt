-- The tables make the seed that the closure makes.
use Rattle.std.specs.Prelude.{◌≡◌, ℕ, List, Some}
use Rattle.mw_causes.specs.Tables.{Files}
use Rattle.mw_words.specs.declared.command_line.GenerateWords.{GenerateWords}
use Rattle.mw_offline.specs.Generating.{GeneratedText}
use Rattle.mw_offline.specs.Laws.{AreTold}
use Rattle.mw_clock.specs.Clockwork.{IsSize}
use Rattle.mw_clock.specs.Words.{TableWords}
use Rattle.mw_clock.specs.Seeds.{IsClockSeed}
use Rattle.mw_clock.specs.Tabled.{AreTables}

-- a folder that tells its files has the tables as they were asked for
pub record HoldTables (files : Files) (asked : TableWords) : Type 0 where
  pub told : AreTold files
  pub world : List ℕ
  pub played : List ℕ
  pub are : AreTables asked world played
  pub world_there : files asked.world_name ≡ Some (Some world)
  pub players_there : files asked.players_name ≡ Some (Some played)

-- what `clockwork generate` writes and prints is what `multiworld generate`, with the same number
-- and a hundred tries, writes and prints on the tables of as many gears
abbrev pub SeedsAgree : Type 0
SeedsAgree =
    (files : Files) (asked : TableWords) (wanted : GenerateWords) (bytes text others other : List ℕ)
    → IsSize asked.gears → HoldTables files asked → wanted.players ≡ asked.players_name
    → wanted.tries ≡ 100 → IsClockSeed asked.gears wanted.seed bytes text
    → GeneratedText files wanted others other → (bytes ≡ others) × (text ≡ other)
