use Rattle.mw_fill.proofs.generating.generate_by.Given as goal

abbrev pub ghosts-count_and_generate : goal.ghosts-count_and_generate
ghosts-count_and_generate g a = record { name = a.blank.name; parts = a.blank.parts }
