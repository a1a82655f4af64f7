-- How a run ends.
use Rattle.std.specs.Prelude.{◌≡◌, ◌⊎◌, ℕ, List, codes}
use Rattle.mw_causes.specs.Ends.{Told, IsTold, bad_words}
use Rattle.mw_causes.specs.Wrote.{Wrote, Untouched}
use Rattle.mw_clock.specs.Words.{SeedWords, TableWords, IsGenerate, IsTables, IsNoCommand}
use Rattle.mw_clock.specs.Seeds.{SeedEnds}
use Rattle.mw_clock.specs.Tabled.{TablesEnd}

-- nothing was touched: the words are no command, or memory ran out before that was seen
pub record IsRefusal (words : List (List ℕ)) (status : ℕ) (wrote : Wrote) (out told : Told)
    : Type 0 where
  pub untouched : Untouched wrote out.old out.new
  pub ends : (IsNoCommand words × (status ≡ 2) × IsTold told bad_words)
      ⊎ ((status ≡ 6) × IsTold told (codes "no memory\n"))

-- the words ask for a seed or for tables, and that ended so; or they are refused
abbrev pub RunEnds : List (List ℕ) → ℕ → Wrote → Told → Told → Type 0
RunEnds words status wrote out told =
    ((wanted : SeedWords) × IsGenerate words wanted × SeedEnds status wrote wanted out told)
    ⊎ (((asked : TableWords) × IsTables words asked × TablesEnd status wrote asked out told)
    ⊎ IsRefusal words status wrote out told)
