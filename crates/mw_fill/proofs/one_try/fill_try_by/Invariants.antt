use Rattle.mw_fill.proofs.one_try.fill_try_by.Given as goal

abbrev pub ghosts-count_and_try : goal.ghosts-count_and_try
ghosts-count_and_try g a = record { name = a.blank.name; parts = a.blank.parts }
