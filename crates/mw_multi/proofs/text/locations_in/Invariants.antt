use Rattle.std.proofs.Common.{◌≡◌, ◌≤◌, ◌*◌, take, map}
use Rattle.std.specs.Prelude.{sum_by}
use Rattle.mw_multi.specs.WorldKept.{location_name}
use Rattle.mw_multi.specs.JointOf.{name_text}
use Rattle.mw_multi.proofs.text.locations_in.Given as goal

abbrev pub invariant-loop-location : goal.invariant-loop-location
invariant-loop-location l = record {
  value : l.total ≡ sum_by name_text (map location_name (take l.location-index l.locations));
  bound : l.total ≤ 539 * l.location-index;
}
