use Rattle.std.proofs.Common.{◌≡◌, ◌∙◌, length, get_or, ap, arith}
use Rattle.mw_fill.proofs.Asked.{goals_of_one}
use Rattle.mw_fill.proofs.laying.Laying.find_next.Goals as goal

pub returns-clause-steps : goal.returns-clause-steps
returns-clause-steps g c =
    let a = c.args in
    let copies = a.order.now.copies.now in
    let laid = a.self.now.laid in
    let copy = c.index-copies-len.result in
    let is : copy ≡ get_or copies (length laid) copy = c.index-copies-len.is ∙ ap (λ k. get_or copies k copy) c.len.ensures in
    omega (arith, c.first_allowed.ensures.steps, goals_of_one a.joint.now copies (length laid) copy c.requires.next is)
