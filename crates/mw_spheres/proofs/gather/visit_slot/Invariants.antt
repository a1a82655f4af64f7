use Rattle.std.proofs.Common.{◌≡◌, ℕ, ◌+◌, ◌≤◌, List, Bool, Some, ◌++◌, length, map}
use Rattle.std.specs.Prelude.{slice_get}
use Rattle.std.specs.List.{range_with_len}
use Rattle.mw_model.specs.Seed.{Spot}
use Rattle.mw_multi.specs.Joint.{Slot}
use Rattle.mw_multi.specs.Steps.{location_place}
use Rattle.mw_reach.specs.Reached.{places_in}
use Rattle.mw_spheres.specs.Spots.{spot_at}
use Rattle.mw_spheres.specs.Gathering.{BagFits, Gathered}
use Rattle.mw_spheres.proofs.gather.visit_slot.Given as goal

-- the locations so far
abbrev pub invariant-loop-index : goal.invariant-loop-index
invariant-loop-index l = record {
  room : BagFits l.table l.taken l.bag;
  size : length l.bag ≡ length l.fn.bag;
  gathered : (s : Slot) (first : List Bool) (start : List ℕ) (spots : List Spot) (bound : ℕ) → slice_get l.joint.slots l.before ≡ Some s → bound ≤ s.first_place
      → Gathered l.joint.slots l.table (places_in l.reached) first start spots bound l.fn.taken l.fn.bag l.fn.sphere
      → Gathered l.joint.slots l.table (places_in l.reached) first start (spots ++ map (spot_at (l.before + 1)) (range_with_len 0 l.index)) (location_place s l.index) l.taken l.bag l.sphere;
}
