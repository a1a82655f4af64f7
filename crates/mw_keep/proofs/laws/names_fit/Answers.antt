use Rattle.std.proofs.Common.{subst}
use Rattle.mw_multidata.specs.SeedKept.{IsSeed}
use Rattle.mw_keep.proofs.Naming.{names_fit}
use Rattle.mw_keep.proofs.laws.names_fit.Goals as goal

pub returns : goal.returns
returns c = names_fit _ (subst IsSeed c.multidata.view_is c.multidata.invariant)
