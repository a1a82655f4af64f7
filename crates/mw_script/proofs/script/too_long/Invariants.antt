use Rattle.std.proofs.Common.{◌≡◌, ◌≤◌, ◌+◌, length}
use Rattle.std.specs.Option.{unwrap_or}
use Rattle.mw_script.specs.Lines.{ended_lines}
use Rattle.mw_script.specs.Script.{first_refused, too_long}
use Rattle.mw_script.proofs.script.too_long.Given as goal

abbrev pub invariant-loop-line : goal.invariant-loop-line
invariant-loop-line l = record {
  same : unwrap_or (first_refused l.number (ended_lines l.rest)) (l.number + length (ended_lines l.rest)) ≡ too_long (ended_lines l.front);
  count : l.number + length l.rest ≤ 1 + length l.front;
}

abbrev pub decreases-loop-line : goal.decreases-loop-line
decreases-loop-line l = length l.rest
