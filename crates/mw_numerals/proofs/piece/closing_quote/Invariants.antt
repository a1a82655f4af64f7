use Rattle.std.proofs.Common.{◌≡◌, take, true, false}
use Rattle.mw_numerals.specs.Pieces.{escaped_after, has_no_end}
use Rattle.mw_numerals.proofs.piece.closing_quote.Given as goal

abbrev pub invariant-loop-at : goal.invariant-loop-at
invariant-loop-at l = record {
  endless : has_no_end false (take l.at l.text) ≡ true;
  escaped : l.escaped ≡ escaped_after false (take l.at l.text);
}
