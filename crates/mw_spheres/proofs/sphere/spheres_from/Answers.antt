use Rattle.std.proofs.Common.{◌≡◌, ◌≤◌, ◌++◌, [], List, length, sym, ap, subst, ◌∙◌, arith}
use Rattle.mw_model.specs.Seed.{Spot}
use Rattle.mw_spheres.specs.Spheres.{IsSphere, listed}
use Rattle.mw_spheres.specs.Gathering.{IsInHand}
use Rattle.mw_spheres.proofs.Hand.{LeadsOn, listed-push, leads_on, ends_here}
use Rattle.mw_spheres.proofs.sphere.spheres_from.Goals as goal

pub loop-alloc-init : goal.loop-alloc-init
loop-alloc-init c =
    let joint = c.args.joint.now in
    let table = c.args.table.now in
    let nothing : listed c.new-spheres.result ≡ [] = ap listed c.new-spheres.ensures in
    record {
      reached = c.next_sphere.ensures.reached;
      rules = c.next_sphere.ensures.rules;
      bag = c.next_sphere.ensures.bag;
      least = c.in_ok-sphere.ensures.least;
      room = c.next_sphere.ensures.room;
      hand = subst (λ ss. IsInHand joint table (ss ++ c.in_ok-sphere.sphere) c.next_sphere.new.taken c.next_sphere.new.bag) (sym nothing) (c.in_ok-sphere.ensures.hand [] c.requires.hand);
      next = subst (λ ss. IsSphere joint table ss c.in_ok-sphere.sphere) (sym nothing) (c.in_ok-sphere.ensures.sphere [] c.requires.hand);
      before = subst (λ (ss : List (List Spot)). LeadsOn joint table ss) (sym c.new-spheres.ensures) (λ rest next. next);
    }

pub loop-alloc-preserved : goal.loop-alloc-preserved
loop-alloc-preserved c =
    let joint = c.args.joint.now in
    let table = c.args.table.now in
    let spheres = c.loop-alloc.spheres in
    let sphere = c.loop-alloc.sphere in
    let i = c.loop-alloc.invariant in
    let some : 1 ≤ length sphere = omega (arith, c.loop-alloc-test.true, c.len.ensures) in
    let now : listed spheres ++ sphere ≡ listed c.push.new.self = sym (ap listed c.in_ok-push.ensures.ok ∙ listed-push spheres sphere) in
    record {
      reached = c.next_sphere-in-loop-alloc.ensures.reached;
      rules = c.next_sphere-in-loop-alloc.ensures.rules;
      bag = c.next_sphere-in-loop-alloc.ensures.bag;
      least = c.in_ok-sphere-2.ensures.least;
      room = c.next_sphere-in-loop-alloc.ensures.room;
      hand = subst (λ ss. IsInHand joint table (ss ++ c.in_ok-sphere-2.sphere) c.next_sphere-in-loop-alloc.new.taken c.next_sphere-in-loop-alloc.new.bag) now (c.in_ok-sphere-2.ensures.hand (listed spheres ++ sphere) i.hand);
      next = subst (λ ss. IsSphere joint table ss c.in_ok-sphere-2.sphere) now (c.in_ok-sphere-2.ensures.sphere (listed spheres ++ sphere) i.hand);
      before = subst (λ (ss : List (List Spot)). LeadsOn joint table ss) (sym c.in_ok-push.ensures.ok) (leads_on joint table spheres sphere i.before i.next some);
    }

pub returns : goal.returns
returns c = ends_here c.args.joint.now c.args.table.now c.loop-alloc.spheres c.loop-alloc.sphere c.loop-alloc.invariant.before c.loop-alloc.invariant.next (omega (arith, c.loop-alloc-test.false, c.len.ensures))
