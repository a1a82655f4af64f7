use Rattle.mw_reach.proofs.goals.unmet_goal.Given as goal

abbrev pub ghosts-count_and_ask : goal.ghosts-count_and_ask
ghosts-count_and_ask a = record { name = a.blank.name; parts = a.blank.parts }
