use Rattle.std.proofs.Common.{◌≡◌, ◌++◌, take, drop}
use Rattle.mw_multidata.specs.Names.{names_differ, all_names}
use Rattle.mw_multidata.proofs.slot_names.judge_names.Given as goal

abbrev pub invariant-loop-i : goal.invariant-loop-i
invariant-loop-i l = names_differ (all_names l.earlier ++ take l.i l.names) l.i (drop l.i l.names) ≡ names_differ (all_names l.earlier) 0 l.names
