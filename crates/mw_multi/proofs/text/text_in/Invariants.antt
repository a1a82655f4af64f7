use Rattle.std.proofs.Common.{◌≡◌, ◌≤◌, ◌*◌, take}
use Rattle.std.specs.Prelude.{sum_by}
use Rattle.mw_multi.specs.JointOf.{world_text}
use Rattle.mw_multi.proofs.text.text_in.Given as goal

abbrev pub invariant-loop-world : goal.invariant-loop-world
invariant-loop-world l = record {
  value : l.total ≡ sum_by world_text (take l.world-index l.worlds);
  bound : l.total ≤ 18865539 * l.world-index;
}
