use Rattle.std.proofs.Common.{subst}
use Rattle.mw_multidata.specs.SeedKept.{IsSeed}
use Rattle.mw_multidata.proofs.tables.RoomTables.multidata.Goals as goal

pub returns-clause-kept : goal.returns-clause-kept
returns-clause-kept c = subst IsSeed c.multidata.view_is c.multidata.invariant
