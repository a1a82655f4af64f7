use Rattle.std.proofs.Common.{◌≡◌, drop}
use Rattle.mw_reach.specs.Required.{first_outside}
use Rattle.mw_reach.specs.Reached.{places_in}
use Rattle.mw_reach.proofs.required.first_outside.Given as goal

-- the locations so far are in the list
abbrev pub invariant-loop-index : goal.invariant-loop-index
invariant-loop-index l = record {
  so_far : first_outside (places_in l.reached) l.slot l.index (drop l.index l.slot.world.locations) ≡ first_outside (places_in l.reached) l.slot 0 l.slot.world.locations;
}
