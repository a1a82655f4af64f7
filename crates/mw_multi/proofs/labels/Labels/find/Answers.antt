use Rattle.mw_multi.proofs.labels.Labels.find.Goals as goal

pub returns-clause-index : goal.returns-clause-index
returns-clause-index c = let named = c.self.invariant.1 c.args.name.now in cc
