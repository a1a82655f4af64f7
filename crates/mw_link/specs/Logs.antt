-- The list that a chain of marks stands for.
use Rattle.std.specs.Prelude.{List, [], ◌∷◌, ◌++◌}
use Rattle.mw_link.specs.declared.log.Marks.{Marks, fold-Marks}
use Rattle.mw_link.specs.declared.log.Marks.TheOpen.{Marks-F}

-- one mark, with the list of the marks before it
abbrev pub log_step : {T : Type 0} → Marks-F T (List T) → List T
log_step Marks-F.Empty = []
log_step (Marks-F.After before item) = before.value ++ item.value ∷ []

abbrev pub logged : {T : Type 0} → Marks T → List T
logged {T} = fold-Marks T (List T) log_step
