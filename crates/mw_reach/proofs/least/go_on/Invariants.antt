use Rattle.mw_reach.proofs.least.go_on.Given as goal

abbrev pub ghosts-count_and_go_on : goal.ghosts-count_and_go_on
ghosts-count_and_go_on a = record { name = a.blank.name; parts = a.blank.parts }
