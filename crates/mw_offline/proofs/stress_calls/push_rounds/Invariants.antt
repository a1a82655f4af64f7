use Rattle.std.proofs.Common.{◌≡◌, ◌++◌, map}
use Rattle.mw_keep.specs.Views.{call_view}
use Rattle.mw_offline.specs.Stressing.{rounds}
use Rattle.mw_offline.proofs.stress_calls.push_rounds.Given as goal

-- those so far
abbrev pub invariant-loop-location : goal.invariant-loop-location
invariant-loop-location l = map call_view l.calls ≡ map call_view l.fn.calls ++ rounds l.many l.location
