use Rattle.std.proofs.Common.{◌≤◌, ◌*◌, length, take}
use Rattle.std.specs.Prelude.{sum_by}
use Rattle.mw_multi.specs.Placement.{IsPlaced}
use Rattle.mw_multi.proofs.placed.Placed.of.Given as goal

abbrev pub invariant-loop-put : goal.invariant-loop-put
invariant-loop-put l = record {
  placed : IsPlaced l.joint (take l.put-index l.placement) l.placed;
  total : sum_by length l.placed ≤ 1024 * l.put-index;
}
