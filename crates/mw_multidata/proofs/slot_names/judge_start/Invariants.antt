use Rattle.std.proofs.Common.{◌≡◌, drop}
use Rattle.mw_multidata.specs.Names.{start_named}
use Rattle.mw_multidata.proofs.slot_names.judge_start.Given as goal

abbrev pub invariant-loop-i : goal.invariant-loop-i
invariant-loop-i l = start_named l.game l.i (drop l.i l.start) ≡ start_named l.game 0 l.start
