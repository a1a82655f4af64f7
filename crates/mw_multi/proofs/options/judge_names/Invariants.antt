use Rattle.std.proofs.Common.{◌≡◌, drop}
use Rattle.mw_multi.specs.JointOf.{all_known}
use Rattle.mw_multi.proofs.options.judge_names.Given as goal

abbrev pub invariant-loop-i : goal.invariant-loop-i
invariant-loop-i l = all_known l.slot l.option l.labels l.i (drop l.i l.names) ≡ all_known l.slot l.option l.labels 0 l.names
