use Rattle.std.proofs.Common.{◌≡◌, ◌∙◌, take, drop, get_or, true, sym, ap, subst}
use Rattle.std.proofs.lemmas.List.{take_rest}
use Rattle.mw_numerals.specs.Numerals.{is_numeral_byte}
use Rattle.mw_numerals.specs.Pieces.{IsPiece, run, begins_run}
use Rattle.mw_numerals.proofs.Pieces.{begins_at, run_is, run_ends}
use Rattle.mw_numerals.proofs.piece.first_piece.Goals as goal

pub returns-then-is_numeral_byte-clause-piece : goal.returns-then-is_numeral_byte-clause-piece
returns-then-is_numeral_byte-clause-piece c =
    let text = c.args.text.now in
    let first : is_numeral_byte (get_or text 0 0) ≡ true = sym c.is_numeral_byte.ensures ∙ c.if-is_numeral_byte.true in
    subst (λ n. IsPiece (run (take n text))) (sym c.run_len-end.ensures.value) (run_is text (begins_at text c.requires first))

pub returns-then-is_numeral_byte-clause-ends : goal.returns-then-is_numeral_byte-clause-ends
returns-then-is_numeral_byte-clause-ends c =
    let text = c.args.text.now in
    ap begins_run (take_rest text c.run_len-end.result ∙ ap (λ n. drop n text) c.run_len-end.ensures.value) ∙ run_ends text
