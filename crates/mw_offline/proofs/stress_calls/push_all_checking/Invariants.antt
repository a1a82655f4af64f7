use Rattle.std.proofs.Common.{◌≡◌, ◌++◌, map}
use Rattle.mw_keep.specs.Views.{call_view}
use Rattle.mw_offline.specs.Stressing.{all_checking}
use Rattle.mw_offline.proofs.stress_calls.push_all_checking.Given as goal

-- those so far
abbrev pub invariant-loop-slot : goal.invariant-loop-slot
invariant-loop-slot l = map call_view l.calls ≡ map call_view l.fn.calls ++ all_checking l.slot l.location
