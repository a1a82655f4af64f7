use Rattle.mw_reach.proofs.least.make_least.Goals as goal

pub returns-clause-steps : goal.returns-clause-steps
returns-clause-steps g c = rw (← c.requires.into.steps) c.reach_rows.ensures.steps
