use Rattle.std.proofs.Common.{◌≡◌, ◌≤◌, ◌+◌, ◌-◌, ◌++◌, length, drop, take, refl, sym, ap, subst, arith, rules}
use Rattle.std.specs.Prelude.{◌/◌}
use Rattle.std.proofs.lemmas.List.{length-take, take_all}
use Rattle.mw_multi.specs.Joint.{IsJoint}
use Rattle.mw_multi.specs.Placement.{IsPlaced}
use Rattle.mw_multi.specs.Events.{events_of}
use Rattle.mw_multi.specs.Steps.{steps_of}
use Rattle.mw_reach.specs.Bound.{asks_naming, asks_at, new_in}
use Rattle.mw_reach.specs.GoingOn.{IsFinished}
use Rattle.mw_reach.specs.Reached.{counts_in, flags_in, places_in}
use Rattle.mw_fill.specs.Fill.{in_hand}
use Rattle.mw_fill.specs.Laying.{numbers_between, asks_of_range}
use Rattle.mw_fill.proofs.Asked.{front_puts, laid_le, list_there, cost_is, first_counted, both_counted}
use Rattle.mw_fill.proofs.Owning.{front_le}
use Rattle.mw_fill.proofs.Runs.{table_few, counts_few, placed_here, since_at}
use Rattle.mw_fill.proofs.Sure.{sure_found, own_found}
use Rattle.mw_fill.proofs.assumed.+place_range.Goals as goal

-- ---- the first half

pub place_first-put_next-requires-clause-found : goal.place_first-put_next-requires-clause-found
place_first-put_next-requires-clause-found g t c =
    let a = c.args in
    let joint = a.joint.now in
    let laying = a.laying.now in
    let laid = laying.laid in
    let whole = subst (λ ls. IsPlaced joint (events_of joint ++ ls) laying.placed) (sym (take_all (length laid) laid (omega arith))) c.requires.laid.table_is in
    sure_found joint a.order.now.copies.now laid (length laid) a.to laying.placed laying.placed (places_in a.reached.now) a.order.now.openings.now laying.held.items c.in-Some.opening a.reached.now.work c.requires.made c.requires.laid.each whole
    c.requires.laid.table_is c.requires.laid.held_is.entries (omega (arith, c.requires.range.0, c.requires.range.1)) c.requires.least.least c.in-Some.ensures.sure

pub place_first-hold_more-requires-clause-placed : goal.place_first-hold_more-requires-clause-placed
place_first-hold_more-requires-clause-placed g t c =
    let a = c.args in
    let order = a.order.now in
    let laying = a.laying.now in
    placed_here a.joint.now (subst IsJoint c.joint.view_is c.joint.invariant) order.openings.now order.copies.now laying.laid laying.held.items laying.placed c.requires.laid

pub place_first-hold_more-requires-clause-few : goal.place_first-hold_more-requires-clause-few
place_first-hold_more-requires-clause-few g t c i =
    let a = c.args in
    let laying = a.laying.now in
    let kept : IsJoint a.joint.now = subst IsJoint c.joint.view_is c.joint.invariant in
    let puts = laying.laid in
    omega (
      arith,
      counts_few a.joint.now kept puts laying.placed c.requires.laid.table_is a.order.now.copies.now a.to (flags_in a.reached.now) (counts_in a.reached.now) c.requires.least i,
      table_few a.joint.now kept puts laying.placed c.requires.laid.table_is,
      laid_le a.joint.now a.order.now.copies.now puts c.requires.laid.numbers,
      ap length c.requires.order.numbers_are,
      c.requires.order.few_numbers,
    )

pub place_first-returns-in_err-place_range-clause-steps : goal.place_first-returns-in_err-place_range-clause-steps
place_first-returns-in_err-place_range-clause-steps g t c levels puts tables lists few same are =
    let a = c.args in
    let joint = a.joint.now in
    let copies = a.order.now.copies.now in
    let laid = a.laying.now.laid in
    let table = a.laying.now.placed in
    let front = front_puts laid c.place_range.new.laying.laid puts c.place_range.ensures.front same in
    let cost = cost_is joint copies puts tables lists are (length laid) a.to (length laid) a.middle table table (flags_in a.reached.now) (flags_in c.hold_more.new.reached) (numbers_between joint copies a.middle a.to)
    (list_there joint copies puts laid (length laid) a.to table (flags_in a.reached.now) refl front c.requires.laid.table_is c.requires.made.tally.done c.requires.least.least)
    (list_there joint copies puts laid (length laid) a.middle table (flags_in c.hold_more.new.reached) refl front c.requires.laid.table_is c.hold_more.ensures.made.tally.done c.hold_more.ensures.least.least) in
    omega (arith, c.hold_more.ensures.steps, cost, c.place_range.ensures.steps levels puts tables lists few same are)

pub place_first-returns-clause-steps : goal.place_first-returns-clause-steps
place_first-returns-clause-steps g t c levels puts tables lists few same are =
    let a = c.args in
    let joint = a.joint.now in
    let copies = a.order.now.copies.now in
    let laid = a.laying.now.laid in
    let table = a.laying.now.placed in
    let front = front_puts laid c.place_range.new.laying.laid puts c.place_range.ensures.front same in
    let cost = cost_is joint copies puts tables lists are (length laid) a.to (length laid) a.middle table table (flags_in a.reached.now) (flags_in c.hold_more.new.reached) (numbers_between joint copies a.middle a.to)
    (list_there joint copies puts laid (length laid) a.to table (flags_in a.reached.now) refl front c.requires.laid.table_is c.requires.made.tally.done c.requires.least.least)
    (list_there joint copies puts laid (length laid) a.middle table (flags_in c.hold_more.new.reached) refl front c.requires.laid.table_is c.hold_more.ensures.made.tally.done c.hold_more.ensures.least.least) in
    omega (arith, c.hold_more.ensures.steps, cost, c.place_range.ensures.steps levels puts tables lists few same are)

-- ---- the second half

pub place_second-put_next-requires-clause-found : goal.place_second-put_next-requires-clause-found
place_second-put_next-requires-clause-found g t c =
    let a = c.args in
    let laying = a.laying.now in
    let was = c.requires.least in
    sure_found a.joint.now a.order.now.copies.now laying.laid a.from a.to was.0 laying.placed (places_in a.reached.now) a.order.now.openings.now laying.held.items c.in-Some.opening a.reached.now.work c.requires.made c.requires.laid.each was.1
    c.requires.laid.table_is c.requires.laid.held_is.entries (omega (arith, c.requires.range.1)) was.2.least c.in-Some.ensures.sure

pub place_second-find_from-requires-clause-placed : goal.place_second-find_from-requires-clause-placed
place_second-find_from-requires-clause-placed g t c =
    let a = c.args in
    let order = a.order.now in
    let laying = a.laying.now in
    placed_here a.joint.now (subst IsJoint c.joint.view_is c.joint.invariant) order.openings.now order.copies.now laying.laid laying.held.items laying.placed c.requires.laid

pub place_second-find_from-requires-clause-few : goal.place_second-find_from-requires-clause-few
place_second-find_from-requires-clause-few g t c i =
    let a = c.args in
    let laying = a.laying.now in
    let kept : IsJoint a.joint.now = subst IsJoint c.joint.view_is c.joint.invariant in
    let was = c.requires.least in
    let front = take a.from laying.laid in
    omega (
      arith,
      counts_few a.joint.now kept front was.0 was.1 a.order.now.copies.now a.to (flags_in a.reached.now) (counts_in a.reached.now) was.2 i,
      table_few a.joint.now kept laying.laid laying.placed c.requires.laid.table_is,
      front_le a.joint.now laying.laid a.from,
      laid_le a.joint.now a.order.now.copies.now laying.laid c.requires.laid.numbers,
      ap length c.requires.order.numbers_are,
      c.requires.order.few_numbers,
    )

pub place_second-place_range-requires : goal.place_second-place_range-requires
place_second-place_range-requires g t c κs within =
    let a = c.args in
    let joint = a.joint.now in
    let laid = a.laying.now.laid in
    let was = c.requires.least in
    let least = c.in_ok-find_from.ensures.least (in_hand joint (drop a.to a.order.now.copies.now)) (events_of joint ++ take a.from laid) was.0 was.1 (since_at joint laid a.from a.laying.now.placed c.requires.laid.table_is) was.2 in (
      omega (arith, c.decreases),
      (search rules, (search rules, (c.requires.rules, (c.requires.order, ((omega (arith, c.requires.range.1), c.requires.range.2), (c.requires.laid, (c.requires.past, (c.in_ok-find_from.ensures.made, least)))))))),
    )

pub place_second-returns-clause-steps : goal.place_second-returns-clause-steps
place_second-returns-clause-steps g t c levels puts tables lists few same are =
    let a = c.args in
    let joint = a.joint.now in
    let copies = a.order.now.copies.now in
    let laid = a.laying.now.laid in
    let table = a.laying.now.placed in
    let was = c.requires.least in
    let front = take a.from laid in
    let long : a.from ≡ length front = omega (arith, length-take a.from laid, c.requires.range.0) in
    let all_puts = front_puts laid c.place_range.new.laying.laid puts c.place_range.ensures.front same in
    let least = c.in_ok-find_from.ensures.least (in_hand joint (drop a.to copies)) (events_of joint ++ front) was.0 was.1 (since_at joint laid a.from table c.requires.laid.table_is) was.2 in
    let cost = cost_is joint copies puts tables lists are a.from a.to (length laid) a.to table was.0 (flags_in a.reached.now) (flags_in c.find_from.new.reached) (numbers_between joint copies a.from (length laid))
    (list_there joint copies puts front a.from a.to was.0 (flags_in a.reached.now) long (front_puts front laid puts (ap (λ k. take k laid) (sym long)) all_puts) was.1 c.requires.made.tally.done was.2.least)
    (list_there joint copies puts laid (length laid) a.to table (flags_in c.find_from.new.reached) refl all_puts c.requires.laid.table_is c.in_ok-find_from.ensures.made.tally.done least.least) in
    omega (arith, c.in_ok-find_from.ensures.steps, cost, c.place_range.ensures.steps levels puts tables lists few same are)

-- ---- the whole

pub place_range-put_next-requires-clause-found : goal.place_range-put_next-requires-clause-found
place_range-put_next-requires-clause-found g t c =
    let a = c.args in
    let joint = a.joint.now in
    let copies = a.order.now.copies.now in
    let laying = a.laying.now in
    let counts = counts_in a.reached.now in
    let next : a.to ≡ length laying.laid + 1 = omega (arith, c.len-from.ensures, c.if-to-from-eq1.true) in
    let own = subst (λ k. IsFinished (steps_of joint) (in_hand joint (drop k copies)) laying.placed (flags_in a.reached.now) counts) next c.requires.least in
    own_found joint a.order.now.openings.now copies laying.laid laying.held.items laying.placed counts (places_in a.reached.now) c.find_next-found.result own.least own.tally c.requires.laid.held_is.entries c.find_next-found.ensures.found

pub place_range-returns-in_err-place_first-clause-steps : goal.place_range-returns-in_err-place_first-clause-steps
place_range-returns-in_err-place_first-clause-steps g t c levels puts tables lists few same are =
    let a = c.args in
    let laid = a.laying.now.laid in
    let middle = c.len-from.result + (a.to - c.len-from.result) / 2 in
    first_counted a.joint.now a.order.now.copies.now puts tables lists are (length laid) middle a.to (omega arith) (omega arith) (omega arith) levels (omega arith) few a.steps.now c.place_first.new.steps
    (λ below fits. c.place_first.ensures.steps below puts tables lists fits same are)

pub place_range-returns-clause-steps : goal.place_range-returns-clause-steps
place_range-returns-clause-steps g t c levels puts tables lists few same are =
    let a = c.args in
    let joint = a.joint.now in
    let copies = a.order.now.copies.now in
    let laid = a.laying.now.laid in
    let half = c.place_first.new.laying in
    let middle = c.len-from.result + (a.to - c.len-from.result) / 2 in
    let more = c.in_ok-place_first.ensures.more in
    let half_puts = front_puts half.laid c.place_second.new.laying.laid puts c.place_second.ensures.front same in
    both_counted joint copies puts tables lists are (length laid) middle a.to (omega arith) (omega arith) (omega arith) levels (omega arith) few a.steps.now c.place_first.new.steps
    (λ below fits. c.place_first.ensures.steps below puts tables lists fits half_puts are) c.place_second.new.steps
    (λ below fits.
    subst (λ k. c.place_second.new.steps ≤ c.place_first.new.steps + (asks_naming (steps_of joint) (numbers_between joint copies k middle) + asks_at (steps_of joint) (tables middle) (new_in (lists k a.to) (lists middle a.to))) + asks_of_range joint copies tables lists below middle a.to)
    c.len-from.ensures
    (subst (λ m. c.place_second.new.steps ≤ c.place_first.new.steps + (asks_naming (steps_of joint) (numbers_between joint copies c.len-from.result m) + asks_at (steps_of joint) (tables m) (new_in (lists c.len-from.result a.to) (lists m a.to))) + asks_of_range joint copies tables lists below m a.to)
    more
    (c.place_second.ensures.steps below puts tables lists (omega (arith, fits, more)) same are)))
