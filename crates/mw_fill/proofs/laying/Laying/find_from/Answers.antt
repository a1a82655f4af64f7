use Rattle.std.proofs.Common.{◌≡◌, ◌-◌, ◌<◌, All, length, drop, take, arith, ap, refl, subst, sym, ◌∙◌}
use Rattle.std.proofs.lemmas.List.{length-drop}
use Rattle.std.proofs.lemmas.List.Elements.{All-drop}
use Rattle.mw_multi.specs.Joint.{item_total}
use Rattle.mw_multi.specs.Steps.{steps_of}
use Rattle.mw_reach.specs.GoingOn.{HasMore}
use Rattle.mw_reach.specs.Counts.{outside}
use Rattle.mw_reach.specs.Reached.{flags_in, places_in}
use Rattle.mw_reach.specs.Bound.{asks_naming}
use Rattle.mw_reach.proofs.Found.{found-le, times_in-le}
use Rattle.mw_fill.specs.Laying.{numbers_found, IsLaid}
use Rattle.mw_fill.proofs.Asked.{fewer_named, half_numbers, rest_first}
use Rattle.mw_fill.proofs.Runs.{rest_of}
use Rattle.mw_fill.proofs.Finding.{more_found, numbers_within, numbers_few}
use Rattle.mw_fill.proofs.Owning.{first_short, middle_le}
use Rattle.mw_fill.proofs.laying.Laying.find_from.Goals as goal

pub numbers_found-requires-clause-order : goal.numbers_found-requires-clause-order
numbers_found-requires-clause-order g c = (c.args.joint.now, c.requires.order)

pub numbers_found-requires-clause-within : goal.numbers_found-requires-clause-within
numbers_found-requires-clause-within g c =
    let a = c.args in
    let joint = a.joint.now in
    let copies = a.order.now.copies.now in
    let laid = a.self.now.laid in
    let rest = drop a.from laid in
    let slice = c.as_slice.result.now in
    let part = take (length slice - a.from) (drop a.from slice) in
    let is : part ≡ rest = rest_of laid slice a.from a.from c.as_slice.ensures refl in
    omega (arith, ap length is, length-drop a.from laid, first_short joint copies laid c.requires.first, c.requires.from)

pub go_on_by-requires-clause-more : goal.go_on_by-requires-clause-more
go_on_by-requires-clause-more g c =
    let a = c.args in
    let joint = a.joint.now in
    let copies = a.order.now.copies.now in
    let laid = a.self.now.laid in
    let w = places_in a.reached.now in
    let rest = drop a.from laid in
    let slice = c.as_slice.result.now in
    let part = take (length slice - a.from) (drop a.from slice) in
    let is : part ≡ rest = rest_of laid slice a.from a.from c.as_slice.ensures refl in
    let found : c.as_slice-more.result.now ≡ numbers_found joint w rest =
    c.as_slice-more.ensures.value ∙ c.in_ok-found.ensures joint c.requires.order (rest_first joint copies laid part a.from c.requires.from is c.requires.first) ∙ ap (numbers_found joint w) is in
    subst (All (λ i. i < item_total joint.slots)) (sym found) (numbers_within joint rest w (All-drop (IsLaid joint) a.from laid c.requires.laid))

pub go_on_by-requires-clause-room : goal.go_on_by-requires-clause-room
go_on_by-requires-clause-room g c i =
    let a = c.args in
    let joint = a.joint.now in
    let copies = a.order.now.copies.now in
    let laid = a.self.now.laid in
    let w = places_in a.reached.now in
    let rest = drop a.from laid in
    let slice = c.as_slice.result.now in
    let part = take (length slice - a.from) (drop a.from slice) in
    let is : part ≡ rest = rest_of laid slice a.from a.from c.as_slice.ensures refl in
    let found : c.as_slice-more.result.now ≡ numbers_found joint w rest =
    c.as_slice-more.ensures.value ∙ c.in_ok-found.ensures joint c.requires.order (rest_first joint copies laid part a.from c.requires.from is c.requires.first) ∙ ap (numbers_found joint w) is in
    omega (
      arith,
      c.requires.few i,
      ap length found,
      times_in-le i c.as_slice-more.result.now,
      numbers_few joint rest w,
      ap length (half_numbers joint copies laid a.from c.requires.from c.requires.first),
      middle_le joint copies a.from (length laid) c.requires.from,
      ap length c.requires.order.numbers_are,
      found-le 0 a.self.now.placed (outside (flags_in a.reached.now)) i,
    )

pub returns-clause-least : goal.returns-clause-least
returns-clause-least g c base puts before p q old =
    let a = c.args in
    let joint = a.joint.now in
    let copies = a.order.now.copies.now in
    let laid = a.self.now.laid in
    let w = places_in a.reached.now in
    let rest = drop a.from laid in
    let slice = c.as_slice.result.now in
    let part = take (length slice - a.from) (drop a.from slice) in
    let is : part ≡ rest = rest_of laid slice a.from a.from c.as_slice.ensures refl in
    let found : c.as_slice-more.result.now ≡ numbers_found joint w rest =
    c.as_slice-more.ensures.value ∙ c.in_ok-found.ensures joint c.requires.order (rest_first joint copies laid part a.from c.requires.from is c.requires.first) ∙ ap (numbers_found joint w) is in
    c.go_on_by.ensures.least base base before old
    (subst (λ ns. HasMore base base before a.self.now.placed w ns) (sym found) (more_found a.joint.now rest puts base before a.self.now.placed (All-drop (IsLaid joint) a.from laid c.requires.laid) p q w))

pub returns-clause-steps : goal.returns-clause-steps
returns-clause-steps g c =
    let a = c.args in
    let joint = a.joint.now in
    let copies = a.order.now.copies.now in
    let laid = a.self.now.laid in
    let w = places_in a.reached.now in
    let rest = drop a.from laid in
    let slice = c.as_slice.result.now in
    let part = take (length slice - a.from) (drop a.from slice) in
    let is : part ≡ rest = rest_of laid slice a.from a.from c.as_slice.ensures refl in
    let found : c.as_slice-more.result.now ≡ numbers_found joint w rest =
    c.as_slice-more.ensures.value ∙ c.in_ok-found.ensures joint c.requires.order (rest_first joint copies laid part a.from c.requires.from is c.requires.first) ∙ ap (numbers_found joint w) is in
    let steps = steps_of a.joint.now in
    omega (
      arith,
      c.go_on_by.ensures.steps,
      ap (asks_naming steps) found,
      fewer_named joint steps w rest,
      ap (asks_naming steps) (half_numbers joint copies laid a.from c.requires.from c.requires.first),
    )
