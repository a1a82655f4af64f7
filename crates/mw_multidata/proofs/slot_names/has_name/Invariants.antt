use Rattle.std.proofs.Common.{◌≡◌, drop}
use Rattle.mw_multidata.specs.Names.{has_name}
use Rattle.mw_multidata.proofs.slot_names.has_name.Given as goal

abbrev pub invariant-loop-other : goal.invariant-loop-other
invariant-loop-other l = has_name l.names l.name ≡ has_name (drop l.other-index l.names) l.name
