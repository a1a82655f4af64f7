-- The list that a chain of marks stands for, the newest item first.
use Rattle.std.specs.Prelude.{List, [], ◌∷◌}
use Rattle.mw_disk.specs.declared.history.Marks.{Marks, fold-Marks}
use Rattle.mw_disk.specs.declared.history.Marks.TheOpen.{Marks-F}

-- one mark, with the list of the marks before it
abbrev pub list_step : {T : Type 0} → Marks-F T (List T) → List T
list_step Marks-F.Empty = []
list_step (Marks-F.After before item) = item.value ∷ before.value

abbrev pub listed : {T : Type 0} → Marks T → List T
listed {T} = fold-Marks T (List T) list_step
