use Rattle.std.proofs.Common.{◌≡◌, Bool, true, false, not, ◌&&◌, [], replicate, refl, sym, ap, subst, ◌∙◌, arith}
use Rattle.std.proofs.lemmas.Grind.{common_steps}
use Rattle.std.proofs.lemmas.List.{append-nil}
use Rattle.std.proofs.lemmas.Result.{on_ok_weaker}
use Rattle.mw_rules.specs.Holds.{bag_of, places_of}
use Rattle.mw_rules.specs.Names.{is_among}
use Rattle.mw_multi.specs.Bags.{start_count}
use Rattle.mw_multi.specs.Joint.{place_total}
use Rattle.mw_multi.specs.Steps.{steps_of}
use Rattle.mw_reach.specs.Reached.{counts_in, flags_in}
use Rattle.mw_reach.proofs.Settling.{settled_alike}
use Rattle.mw_reach.proofs.Walks.{replicate-false}
use Rattle.mw_spheres.specs.Playthrough.{IsThinned}
use Rattle.mw_spheres.proofs.Revealing.{nothing_shown}
use Rattle.mw_spheres.proofs.thin.thin_all.Goals as goal

never_both : (b : Bool) → (b && not b) ≡ false
never_both true = refl
never_both false = refl

pub thin-requires-clause-shown : goal.thin-requires-clause-shown
thin-requires-clause-shown c p =
    let joint = c.args.joint.now in
    let among = is_among c.args.places.now p in
    let none : c.as_mut_slice-shown.result.now ≡ replicate (place_total joint.slots) false = grind (arith, common_steps) in
    ap (λ flags. places_of flags p) none ∙ replicate-false (place_total joint.slots) p ∙ sym (ap (λ b. b && not among) (c.requires.kept p) ∙ never_both among)

pub thin-requires-clause-table : goal.thin-requires-clause-table
thin-requires-clause-table c =
    let joint = c.args.joint.now in
    let none : c.as_mut_slice-shown.result.now ≡ replicate (place_total joint.slots) false = grind (arith, common_steps) in
    nothing_shown joint c.args.full.now c.in_ok-table.table c.as_mut_slice-shown.result.now (place_total joint.slots) none c.in_ok-table.ensures.value c.requires.full.size

pub thin-requires-clause-least : goal.thin-requires-clause-least
thin-requires-clause-least c =
    let joint = c.args.joint.now in
    let into = c.reach.new.into in
    let table = c.in_ok-table.table in
    settled_alike (steps_of joint) (bag_of c.in_ok-start.start) (start_count joint.slots) table table (flags_in into) (counts_in into) (λ v i. omega (arith, c.in_ok-start.ensures.counts i)) record { least = c.reach.ensures.least; tally = c.reach.ensures.counts }

pub returns : goal.returns
returns c =
    let a = c.args in
    on_ok_weaker c.thin.result (λ h. subst (λ places. IsThinned a.joint.now a.full.now places a.kept.now c.thin.new.kept) (append-nil a.places.now) (h a.kept.now [] refl)) c.thin.ensures.thinned
