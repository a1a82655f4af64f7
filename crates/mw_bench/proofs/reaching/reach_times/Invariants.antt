use Rattle.mw_bench.proofs.reaching.reach_times.Given as goal

abbrev pub ghosts-reach_often : goal.ghosts-reach_often
ghosts-reach_often g a = record { name = a.blank.name; parts = a.blank.parts }
