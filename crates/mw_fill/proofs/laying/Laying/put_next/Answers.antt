use Rattle.std.proofs.Common.{◌≡◌, ◌+◌, ◌++◌, ◌∷◌, [], List, Some, None, length, drop, get_or, set, sym, ap, ap₂, subst, ◌∙◌, arith}
use Rattle.std.proofs.lemmas.List.{length-set, take_at}
use Rattle.mw_multi.specs.Joint.{IsJoint}
use Rattle.mw_multi.specs.Placement.{Put, PutKept, IsPlaced}
use Rattle.mw_multi.specs.Events.{events_of}
use Rattle.mw_multi.proofs.Owners.{put_numbers_le}
use Rattle.mw_reach.specs.Reach.{bag_with}
use Rattle.mw_fill.specs.Openings.{Opening}
use Rattle.mw_fill.specs.Fill.{stuck, put_of, first_fit, in_hand, is_allowed, FillRun}
use Rattle.mw_fill.specs.Kept.{CopyKept, OpeningKept}
use Rattle.mw_fill.specs.Asks.{FindsNone}
use Rattle.mw_fill.specs.Laying.{AreLaid}
use Rattle.mw_fill.specs.Answer.{OnStuck}
use Rattle.mw_fill.proofs.Asked.{laid_le}
use Rattle.mw_fill.proofs.Fitting.{find_all}
use Rattle.mw_fill.proofs.Locations.{put_kept}
use Rattle.mw_fill.proofs.Runs.{table_few, none_here, stuck_here, one_placed}
use Rattle.mw_fill.proofs.laying.Laying.put_next.Goals as goal

pub put-requires-clause-kept : goal.put-requires-clause-kept
put-requires-clause-kept c =
    let a = c.args in
    let joint = a.joint.now in
    let kept : IsJoint joint = subst IsJoint c.joint.view_is c.joint.invariant in
    let laid = a.self.now.laid in
    let copy = c.index-copies-len.result in
    let is : copy ≡ get_or a.order.now.copies.now (length laid) copy = c.index-copies-len.is ∙ ap (λ k. get_or a.order.now.copies.now k copy) c.len.ensures in
    let copy_kept : CopyKept joint copy = subst (CopyKept joint) (sym is) (c.requires.order.copies_kept (length laid) copy c.requires.next) in
    let opening = c.in-Some.opening in
    let site = find_all (OpeningKept joint) _ a.order.now.openings.now opening c.requires.order.openings_kept (c.requires.found.2 copy is ∙ c.in-Some.is) in
    subst (PutKept joint) (sym c.put_at-put.ensures) (put_kept joint opening copy.receiver copy.item site copy_kept.item)

pub put-requires-clause-room : goal.put-requires-clause-room
put-requires-clause-room c =
    let joint = c.args.joint.now in
    let kept : IsJoint joint = subst IsJoint c.joint.view_is c.joint.invariant in
    let laid = c.args.self.now.laid in
    omega (
      arith,
      table_few joint kept laid c.args.self.now.placed c.requires.laid.table_is,
      laid_le joint c.args.order.now.copies.now laid c.requires.laid.numbers,
      ap length c.requires.order.numbers_are,
      c.requires.order.few_numbers,
      put_numbers_le joint c.put_at-put.result kept,
    )

pub bounds-held-opening-inside : goal.bounds-held-opening-inside
bounds-held-opening-inside c =
    let a = c.args in
    let joint = a.joint.now in
    let copy = c.index-copies-len.result in
    let is : copy ≡ get_or a.order.now.copies.now (length a.self.now.laid) copy = c.index-copies-len.is ∙ ap (λ k. get_or a.order.now.copies.now k copy) c.len.ensures in
    let opening = c.in-Some.opening in
    let site = find_all (OpeningKept joint) _ a.order.now.openings.now opening c.requires.order.openings_kept (c.requires.found.2 copy is ∙ c.in-Some.is) in
    omega (arith, site.place, c.requires.laid.held_is.size, ap (λ (s : Opening). s.place) c.opening.view_is)

pub returns-in-None-clause-answer : goal.returns-in-None-clause-answer
returns-in-None-clause-answer c =
    let a = c.args in
    let joint = a.joint.now in
    let kept : IsJoint joint = subst IsJoint c.joint.view_is c.joint.invariant in
    let laid = a.self.now.laid in
    let copy = c.index-copies-len.result in
    let is : copy ≡ get_or a.order.now.copies.now (length laid) copy = c.index-copies-len.is ∙ ap (λ k. get_or a.order.now.copies.now k copy) c.len.ensures in
    let w = c.requires.found.0 in
    let hand = in_hand joint (drop (length laid + 1) a.order.now.copies.now) in
    let none : first_fit (is_allowed joint (bag_with hand a.self.now.placed w) w copy) laid a.order.now.openings.now ≡ None = c.requires.found.2 copy is ∙ c.in-None.is in
    subst (λ e. OnStuck e (λ slot item. FillRun joint a.order.now.openings.now a.order.now.copies.now [] (stuck slot item))) (sym c.stuck.ensures)
    (stuck_here joint kept a.order.now.openings.now a.order.now.copies.now laid a.self.now.held.items a.self.now.placed c.requires.laid copy c.requires.next is w c.requires.found.1 none)

pub returns-in-None-clause-none : goal.returns-in-None-clause-none
returns-in-None-clause-none c =
    let a = c.args in
    let joint = a.joint.now in
    let kept : IsJoint joint = subst IsJoint c.joint.view_is c.joint.invariant in
    let laid = a.self.now.laid in
    let copy = c.index-copies-len.result in
    let is : copy ≡ get_or a.order.now.copies.now (length laid) copy = c.index-copies-len.is ∙ ap (λ k. get_or a.order.now.copies.now k copy) c.len.ensures in
    let w = c.requires.found.0 in
    let hand = in_hand joint (drop (length laid + 1) a.order.now.copies.now) in
    let none : first_fit (is_allowed joint (bag_with hand a.self.now.placed w) w copy) laid a.order.now.openings.now ≡ None = c.requires.found.2 copy is ∙ c.in-None.is in
    subst (λ e. OnStuck e (λ slot item. FindsNone joint a.order.now.openings.now (drop (length laid) a.order.now.copies.now) laid)) (sym c.stuck.ensures)
    (none_here joint kept a.order.now.openings.now a.order.now.copies.now laid a.self.now.held.items a.self.now.placed c.requires.laid copy c.requires.next is w c.requires.found.1 none)

pub returns-in_ok-push-in-Some-clause-answer : goal.returns-in_ok-push-in-Some-clause-answer
returns-in_ok-push-in-Some-clause-answer c =
    let a = c.args in
    let joint = a.joint.now in
    let kept : IsJoint joint = subst IsJoint c.joint.view_is c.joint.invariant in
    let laid = a.self.now.laid in
    let copy = c.index-copies-len.result in
    let is : copy ≡ get_or a.order.now.copies.now (length laid) copy = c.index-copies-len.is ∙ ap (λ k. get_or a.order.now.copies.now k copy) c.len.ensures in
    let copy_kept : CopyKept joint copy = subst (CopyKept joint) (sym is) (c.requires.order.copies_kept (length laid) copy c.requires.next) in
    let opening = c.in-Some.opening in
    let w = c.requires.found.0 in
    let hand = in_hand joint (drop (length laid + 1) a.order.now.copies.now) in
    let found : first_fit (is_allowed joint (bag_with hand a.self.now.placed w) w copy) laid a.order.now.openings.now ≡ Some opening = c.requires.found.2 copy is ∙ c.in-Some.is in
    let put = c.put_at-put.ensures in
    let placed : IsPlaced joint ((events_of joint ++ laid) ++ put_of copy opening ∷ []) c.put.new.self =
    subst (λ p. IsPlaced joint ((events_of joint ++ laid) ++ p ∷ []) c.put.new.self) put (c.in_ok-put-in-Some.ensures.ok (events_of joint ++ laid) c.requires.laid.table_is) in
    let next = one_placed joint kept a.order.now.openings.now a.order.now.copies.now laid a.self.now.held.items a.self.now.placed c.requires.laid copy c.requires.next is w c.requires.found.1 copy_kept c.requires.order.openings_kept opening c.put.new.self found placed in
    let entry : set a.self.now.held.items opening.place (Some (put_of copy opening)) ≡ set a.self.now.held.items c.opening.inside.place (Some c.put_at-put.result) = sym (ap₂ (λ n p. set a.self.now.held.items n (Some p)) (ap (λ (s : Opening). s.place) c.opening.view_is) put) in
    let last : laid ++ put_of copy opening ∷ [] ≡ c.push.new.self = sym (c.in_ok-push-in-Some.ensures.ok ∙ ap (λ p. laid ++ p ∷ []) put) in
    let slice = c.as_mut_slice-held.result.now in
    let place = c.opening.inside.place in
    let stood = Some c.put_at-put.result in
    let written = take_at (set slice place stood) _ a.self.now.held.len (length-set slice place stood ∙ c.as_mut_slice-held.ensures.len) ∙ ap (λ h. set h place stood) c.as_mut_slice-held.ensures.value in
    subst (λ h. AreLaid joint a.order.now.openings.now a.order.now.copies.now c.push.new.self h c.put.new.self) (sym written)
    (subst (λ (ls : List Put). AreLaid joint a.order.now.openings.now a.order.now.copies.now ls (set a.self.now.held.items place stood) c.put.new.self) last
    (subst (λ h. AreLaid joint a.order.now.openings.now a.order.now.copies.now (laid ++ put_of copy opening ∷ []) h c.put.new.self) entry next))

pub returns-in_ok-push-in-Some-clause-runs : goal.returns-in_ok-push-in-Some-clause-runs
returns-in_ok-push-in-Some-clause-runs c = (returns-in_ok-push-in-Some-clause-answer c).runs

pub returns-in_ok-push-in-Some-clause-each : goal.returns-in_ok-push-in-Some-clause-each
returns-in_ok-push-in-Some-clause-each c = (returns-in_ok-push-in-Some-clause-answer c).each
