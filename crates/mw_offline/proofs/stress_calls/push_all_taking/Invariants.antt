use Rattle.std.proofs.Common.{◌≡◌, ◌++◌, map}
use Rattle.mw_keep.specs.Views.{call_view}
use Rattle.mw_offline.specs.Stressing.{all_taking}
use Rattle.mw_offline.proofs.stress_calls.push_all_taking.Given as goal

-- those so far
abbrev pub invariant-loop-slot : goal.invariant-loop-slot
invariant-loop-slot l = map call_view l.calls ≡ map call_view l.fn.calls ++ all_taking l.slot
