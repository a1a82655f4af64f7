use Rattle.std.proofs.Common.{◌≡◌, suc, drop}
use Rattle.mw_reach.specs.Required.{missed_from, missed_location}
use Rattle.mw_reach.specs.Reached.{places_in}
use Rattle.mw_reach.proofs.required.missed_location.Given as goal

-- the slots so far miss no location
abbrev pub invariant-loop-index : goal.invariant-loop-index
invariant-loop-index l = record {
  so_far : missed_from (suc l.index) (drop l.index l.joint.slots) (places_in l.reached) ≡ missed_location l.joint (places_in l.reached);
}
