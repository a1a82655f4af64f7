use Rattle.std.proofs.Common.{rules, ◌≡◌, ◌∙◌, ℤ, List, Some, None, ap, sym, arith}
use Rattle.mw_play.specs.Ids.{id_in, ids_in}
use Rattle.mw_play.proofs.Reading.{in_front, line_names, line_names_none}
use Rattle.mw_play.proofs.input.ids_in.Goals as goal

pub returns-in_default-clause-bad : goal.returns-in_default-clause-bad
returns-in_default-clause-bad c = λ is.
    let none : id_in c.split_line.result.0.now ≡ None = search rules in
    sym c.loop-rest.invariant ∙ line_names_none c.loop-rest.ids c.loop-rest.rest.now c.split_line.result.0.now c.split_line.result.1.now (grind arith) c.split_line.ensures.line c.split_line.ensures.rest none

pub loop-rest-preserved : goal.loop-rest-preserved
loop-rest-preserved c =
    let names : id_in c.split_line.result.0.now ≡ Some c.in-Some.id = search rules in
    ap (λ (l : List ℤ). in_front l (ids_in c.split_line.result.1.now)) c.in_ok-push.ensures.ok
    ∙ line_names c.loop-rest.ids c.in-Some.id c.loop-rest.rest.now c.split_line.result.0.now c.split_line.result.1.now (grind arith) c.split_line.ensures.line c.split_line.ensures.rest names
    ∙ c.loop-rest.invariant
