use Rattle.mw_rows.proofs.rules.answer_counted.Given as goal

-- the counter is the one that the blank names
abbrev pub ghosts-counted : goal.ghosts-counted
ghosts-counted a = record { name = a.blank.name; parts = a.blank.parts }
