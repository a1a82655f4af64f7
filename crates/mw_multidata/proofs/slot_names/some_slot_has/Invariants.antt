use Rattle.std.proofs.Common.{◌≡◌, drop}
use Rattle.mw_multidata.specs.Names.{has_name, all_names}
use Rattle.mw_multidata.proofs.slot_names.some_slot_has.Given as goal

abbrev pub invariant-loop-slot : goal.invariant-loop-slot
invariant-loop-slot l = has_name (all_names l.slots) l.name ≡ has_name (all_names (drop l.slot-index l.slots)) l.name
