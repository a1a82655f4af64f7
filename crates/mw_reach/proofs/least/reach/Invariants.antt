use Rattle.mw_reach.proofs.least.reach.Given as goal

abbrev pub ghosts-count_and_reach : goal.ghosts-count_and_reach
ghosts-count_and_reach a = record { name = a.blank.name; parts = a.blank.parts }
