use Rattle.mw_multi.proofs.Marks.{index_within}
use Rattle.mw_multi.proofs.options.index_in.Goals as goal

pub returns-in-Some-clause-within : goal.returns-in-Some-clause-within
returns-in-Some-clause-within c = index_within c.args.labels.now c.args.name.now c.in-Some.index (let found = c.in-Some.ensures.index in cc)
