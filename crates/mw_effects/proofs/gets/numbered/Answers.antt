use Rattle.std.proofs.Common.{sym, ◌∙◌, arith}
use Rattle.mw_effects.proofs.Values.{unread, misspelled, is_said}
use Rattle.mw_effects.proofs.gets.numbered.Goals as goal

pub returns-in_default : goal.returns-in_default
returns-in_default c = sym (unread c.args.text.now c.parse.result c.parse.ensures.value.0 (λ n is. cc))

pub returns-then-spelled : goal.returns-then-spelled
returns-then-spelled c = sym (is_said c.args.text.now c.in-Ok.number (omega arith) (sym c.in_ok-spelled.ensures ∙ c.if-spelled.true))

pub returns : goal.returns
returns c = sym (misspelled c.args.text.now c.parse.result c.in-Ok.number c.parse.ensures.value.0 c.in-Ok.is (sym c.in_ok-spelled.ensures ∙ c.if-spelled.false))
