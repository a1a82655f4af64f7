use Rattle.std.proofs.Common.{◌≡◌, ◌+◌, drop}
use Rattle.std.specs.List.{position_or_len}
use Rattle.mw_script.specs.Lines.{is_end}
use Rattle.mw_script.proofs.lines.line_len.Given as goal

abbrev pub invariant-loop-at : goal.invariant-loop-at
invariant-loop-at l = position_or_len is_end l.bytes ≡ l.at + position_or_len is_end (drop l.at l.bytes)
