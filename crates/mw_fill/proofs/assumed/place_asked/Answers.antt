use Rattle.std.proofs.Common.{arith, subst}
use Rattle.std.specs.Prelude.{Ok}
use Rattle.mw_multi.specs.Joint.{IsJoint}
use Rattle.mw_reach.specs.Reached.{counts_in, flags_in}
use Rattle.mw_fill.proofs.Asked.{whole_within, ends_there}
use Rattle.mw_fill.proofs.Runs.{first_list, placed_here, end_is}
use Rattle.mw_fill.proofs.assumed.place_asked.Goals as goal

pub reach_by-requires-clause-placed : goal.reach_by-requires-clause-placed
reach_by-requires-clause-placed g c =
    let a = c.args in
    let laying = c.in_ok-laying.laying in
    placed_here a.joint.now (subst IsJoint c.joint.view_is c.joint.invariant) a.openings.now a.copies.now laying.laid laying.held.items laying.placed (c.in_ok-laying.ensures.laid a.openings.now a.copies.now)

pub place_range-requires-clause-laid : goal.place_range-requires-clause-laid
place_range-requires-clause-laid g c = c.in_ok-laying.ensures.laid c.args.openings.now c.args.copies.now

pub place_range-requires-clause-least : goal.place_range-requires-clause-least
place_range-requires-clause-least g c =
    let into = c.reach_by.new.into in
    first_list c.args.joint.now c.args.copies.now c.in_ok-start.start c.in_ok-laying.laying.placed (flags_in into) (counts_in into) c.in_ok-start.ensures record { least = c.reach_by.ensures.least; tally = c.reach_by.ensures.counts }

pub returns-clause-answer : goal.returns-clause-answer
returns-clause-answer g c =
    let a = c.args in
    let kept : IsJoint a.joint.now = subst IsJoint c.joint.view_is c.joint.invariant in
    let laying = c.place_range.new.laying in
    let end = c.in_ok-place_range.ensures.answer in
    (laying.laid, end.held_is, end_is a.joint.now kept a.openings.now a.copies.now laying.laid laying.held.items laying.placed end (omega (arith, c.in_ok-place_range.ensures.more)))

pub returns-in_err-place_range-clause-steps : goal.returns-in_err-place_range-clause-steps
returns-in_err-place_range-clause-steps g c =
    let a = c.args in
    let begin = c.in_ok-laying.laying in
    let reach = c.reach_by.ensures in
    let range = c.place_range.ensures in
    let into = c.reach_by.new.into in
    let first = first_list a.joint.now a.copies.now c.in_ok-start.start begin.placed (flags_in into) (counts_in into) c.in_ok-start.ensures record { least = reach.least; tally = reach.counts } in
    whole_within a.joint.now a.openings.now a.copies.now begin.laid c.place_range.new.laying.laid begin.placed into _ c.reach_by.new.steps _ c.in_ok-laying.ensures.empty (c.in_ok-laying.ensures.laid a.openings.now a.copies.now).table_is
    reach.kept first.least reach.steps range.each range.runs range.steps c.from_residual-in_err-place_range.result
    (ends_there a.joint.now a.openings.now a.copies.now c.place_range.new.laying.laid _ c.from_residual-in_err-place_range.result c.in_err-place_range.ensures.none c.from_residual-in_err-place_range.ensures.1)

pub returns-clause-steps : goal.returns-clause-steps
returns-clause-steps g c =
    let a = c.args in
    let begin = c.in_ok-laying.laying in
    let reach = c.reach_by.ensures in
    let range = c.place_range.ensures in
    let into = c.reach_by.new.into in
    let first = first_list a.joint.now a.copies.now c.in_ok-start.start begin.placed (flags_in into) (counts_in into) c.in_ok-start.ensures record { least = reach.least; tally = reach.counts } in
    whole_within a.joint.now a.openings.now a.copies.now begin.laid c.place_range.new.laying.laid begin.placed into _ c.reach_by.new.steps _ c.in_ok-laying.ensures.empty (c.in_ok-laying.ensures.laid a.openings.now a.copies.now).table_is
    reach.kept first.least reach.steps range.each range.runs range.steps (Ok c.place_range.new.laying.held)
    c.in_ok-place_range.ensures.more
