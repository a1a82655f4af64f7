use Rattle.std.proofs.Common.{◌≡◌, ◌≤◌, ◌+◌, length}
use Rattle.mw_script.specs.Lines.{lines_of}
use Rattle.mw_script.specs.Script.{first_refused}
use Rattle.mw_script.proofs.script.first_refused.Given as goal

abbrev pub invariant-loop-rest : goal.invariant-loop-rest
invariant-loop-rest l = record {
  same : first_refused l.number (lines_of l.rest) ≡ first_refused 1 (lines_of l.script);
  count : l.number + length l.rest ≤ 1 + length l.script;
}

abbrev pub decreases-loop-rest : goal.decreases-loop-rest
decreases-loop-rest l = length l.rest
