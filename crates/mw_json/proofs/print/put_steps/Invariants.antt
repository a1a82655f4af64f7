use Rattle.std.proofs.Common.{◌≡◌, ◌≤◌, ◌++◌, drop, length, string_bytes}
use Rattle.mw_json.specs.Paths.{steps_text}
use Rattle.mw_json.proofs.print.put_steps.Given as goal

-- the outer steps are put
abbrev pub invariant-loop-left : goal.invariant-loop-left
invariant-loop-left l = (string_bytes l.out ≡ string_bytes l.initial.out ++ steps_text (drop l.left l.steps)) × (l.left ≤ length l.steps)

abbrev pub decreases-loop-left : goal.decreases-loop-left
decreases-loop-left l = l.left
