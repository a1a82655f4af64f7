use Rattle.std.proofs.Common.{◌≡◌, ◌+◌, drop}
use Rattle.std.specs.List.{prefix_len}
use Rattle.mw_numerals.specs.Numerals.{is_numeral_byte}
use Rattle.mw_numerals.proofs.piece.run_len.Given as goal

abbrev pub invariant-loop-at : goal.invariant-loop-at
invariant-loop-at l = prefix_len is_numeral_byte l.text ≡ l.at + prefix_len is_numeral_byte (drop l.at l.text)
