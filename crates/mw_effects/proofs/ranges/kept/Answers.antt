use Rattle.std.proofs.Common.{subst}
use Rattle.mw_multidata.specs.SeedKept.{IsSeed}
use Rattle.mw_effects.proofs.ranges.kept.Goals as goal

pub returns : goal.returns
returns c = subst IsSeed c.seed.view_is c.seed.invariant
