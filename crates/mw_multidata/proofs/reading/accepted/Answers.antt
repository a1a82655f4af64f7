use Rattle.std.proofs.Common.{subst, sym}
use Rattle.mw_multidata.specs.SeedKept.{IsSeed}
use Rattle.mw_multidata.proofs.reading.accepted.Goals as goal

pub invariant_of-result : goal.invariant_of-result
invariant_of-result c = subst IsSeed (sym c.shape.view_is) c.requires
