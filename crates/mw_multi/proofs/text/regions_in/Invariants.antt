use Rattle.std.proofs.Common.{◌≡◌, ◌≤◌, ◌*◌, take}
use Rattle.std.specs.Prelude.{sum_by}
use Rattle.mw_multi.specs.JointOf.{name_text}
use Rattle.mw_multi.proofs.text.regions_in.Given as goal

abbrev pub invariant-loop-region : goal.invariant-loop-region
invariant-loop-region l = record {
  value : l.total ≡ sum_by name_text (take l.region-index l.regions);
  bound : l.total ≤ 539 * l.region-index;
}
