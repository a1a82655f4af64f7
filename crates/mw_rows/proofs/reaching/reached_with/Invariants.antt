use Rattle.mw_rows.proofs.reaching.reached_with.Given as goal

-- the counter is the one that the blank names
abbrev pub ghosts-reached_by : goal.ghosts-reached_by
ghosts-reached_by a = record { name = a.blank.name; parts = a.blank.parts }
