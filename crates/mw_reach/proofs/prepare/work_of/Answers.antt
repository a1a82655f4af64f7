use Rattle.std.proofs.Common.{◌∙◌}
use Rattle.mw_reach.proofs.Parting.{always_are}
use Rattle.mw_reach.proofs.prepare.work_of.Goals as goal

pub split_of-requires-clause-free : goal.split_of-requires-clause-free
split_of-requires-clause-free g c = always_are c.args.joint.now c.as_slice.result.now (c.as_slice.ensures ∙ c.in_ok-free.ensures)
