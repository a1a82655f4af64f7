use Rattle.std.proofs.Common.{◌≡◌, ◌≤◌, ◌*◌, take, map}
use Rattle.std.specs.Prelude.{sum_by}
use Rattle.mw_multi.specs.WorldKept.{entrance_name}
use Rattle.mw_multi.specs.JointOf.{name_text}
use Rattle.mw_multi.proofs.text.entrances_in.Given as goal

abbrev pub invariant-loop-entrance : goal.invariant-loop-entrance
invariant-loop-entrance l = record {
  value : l.total ≡ sum_by name_text (map entrance_name (take l.entrance-index l.entrances));
  bound : l.total ≤ 539 * l.entrance-index;
}
