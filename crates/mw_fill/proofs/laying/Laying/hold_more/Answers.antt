use Rattle.std.proofs.Common.{◌-◌, ◌<◌, All, length, drop, take, subst, sym, ap, arith}
use Rattle.std.proofs.lemmas.List.Elements.{All-drop, All-take}
use Rattle.mw_multi.specs.Joint.{item_total}
use Rattle.mw_multi.specs.Steps.{steps_of}
use Rattle.mw_reach.specs.Bound.{asks_naming}
use Rattle.mw_reach.specs.Counts.{outside}
use Rattle.mw_reach.specs.GoingOn.{HasMore}
use Rattle.mw_reach.specs.Reached.{flags_in, places_in}
use Rattle.mw_reach.proofs.Found.{found-le, times_in-le}
use Rattle.mw_fill.specs.Fill.{in_hand}
use Rattle.mw_fill.specs.Kept.{CopyKept}
use Rattle.mw_fill.proofs.Hands.{held_more}
use Rattle.mw_fill.proofs.Owning.{copies_within, middle_le}
use Rattle.mw_fill.proofs.laying.Laying.hold_more.Goals as goal

pub numbers_between-more-requires-clause-order : goal.numbers_between-more-requires-clause-order
numbers_between-more-requires-clause-order g c = (c.args.joint.now, c.requires.order)

pub go_on_by-requires-clause-more : goal.go_on_by-requires-clause-more
go_on_by-requires-clause-more g c =
    let a = c.args in
    let joint = a.joint.now in
    let rest = drop a.middle a.order.now.copies.now in
    subst (All (λ i. i < item_total joint.slots)) (sym (c.numbers_between-more.ensures joint c.requires.order))
    (copies_within joint (take (a.to - a.middle) rest) (All-take (CopyKept joint) (a.to - a.middle) rest (All-drop (CopyKept joint) a.middle a.order.now.copies.now c.requires.order.copies_kept)))

pub go_on_by-requires-clause-room : goal.go_on_by-requires-clause-room
go_on_by-requires-clause-room g c i =
    let a = c.args in
    let joint = a.joint.now in
    let copies = a.order.now.copies.now in
    omega (
      arith,
      c.requires.few i,
      times_in-le i c.numbers_between-more.result.now,
      ap length (c.numbers_between-more.ensures joint c.requires.order),
      middle_le joint copies a.middle a.to c.requires.range.0,
      ap length c.requires.order.numbers_are,
      found-le 0 a.self.now.placed (outside (flags_in a.reached.now)) i,
    )

pub returns-clause-least : goal.returns-clause-least
returns-clause-least g c =
    let a = c.args in
    let joint = a.joint.now in
    let copies = a.order.now.copies.now in
    let w = places_in a.reached.now in
    let table = a.self.now.placed in
    c.go_on_by.ensures.least (in_hand joint (drop a.to copies)) (in_hand joint (drop a.middle copies)) table c.requires.least
    (subst (λ ns. HasMore (in_hand joint (drop a.to copies)) (in_hand joint (drop a.middle copies)) table table w ns) (sym (c.numbers_between-more.ensures joint c.requires.order)) (held_more joint copies a.middle a.to c.requires.range.0 table w))

pub returns-clause-steps : goal.returns-clause-steps
returns-clause-steps g c =
    let joint = c.args.joint.now in
    omega (arith, c.go_on_by.ensures.steps, ap (asks_naming (steps_of joint)) (c.numbers_between-more.ensures joint c.requires.order))
