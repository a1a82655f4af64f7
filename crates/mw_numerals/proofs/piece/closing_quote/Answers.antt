use Rattle.std.proofs.Common.{◌≡◌, ◌∙◌, false, sym, get_or}
use Rattle.mw_numerals.specs.Pieces.{closes}
use Rattle.mw_numerals.proofs.Pieces.{one_more}
use Rattle.mw_numerals.proofs.piece.closing_quote.Goals as goal

pub loop-at-preserved : goal.loop-at-preserved
loop-at-preserved c =
    let text = c.args.text.now in
    let at = c.loop-at.at in
    let before = c.loop-at.invariant in
    let inside : closes c.loop-at.escaped (get_or text at 0) ≡ false = sym c.closes.ensures ∙ c.if-closes.false in
    let more = one_more text at c.loop-at.escaped c.loop-at-test.true before.endless before.escaped inside in
    record { endless = more.0; escaped = c.escapes-escaped.ensures ∙ more.1 }
