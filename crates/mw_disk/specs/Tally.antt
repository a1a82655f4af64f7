-- The number that a chain of marks stands for.
use Rattle.std.specs.Prelude.{ℕ, ◌+◌}
use Rattle.mw_disk.specs.declared.tally.Marks.{Marks, fold-Marks}
use Rattle.mw_disk.specs.declared.tally.Marks.TheOpen.{Marks-F}

-- one level, with the number of the marks before
abbrev pub mark_step : Marks-F ℕ → ℕ
mark_step Marks-F.Unmarked = 0
mark_step (Marks-F.After before) = before.value + 1

-- how many marks a chain has
abbrev pub mark_count : Marks → ℕ
mark_count = fold-Marks ℕ mark_step
