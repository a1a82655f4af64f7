use Rattle.std.proofs.Common.{◌≡◌, ◌<◌, ◌+◌, suc, true, false, length, drop, sym, ap, ◌∙◌, arith}
use Rattle.mw_multi.specs.World.{World}
use Rattle.mw_multi.specs.Joint.{Slot}
use Rattle.mw_multi.specs.Steps.{location_place}
use Rattle.mw_reach.specs.Reached.{places_in}
use Rattle.mw_reach.specs.Required.{first_outside}
use Rattle.mw_reach.proofs.Requiring.{next_inside, next_outside}
use Rattle.mw_reach.proofs.required.first_outside.Goals as goal

pub returns-then-not-has : goal.returns-then-not-has
returns-then-not-has c =
    let w = places_in c.args.reached.now in
    let s = c.args.slot.now in
    let i = c.loop-index.index in
    let world : _ ≡ s.world = c.world.view_is ∙ ap (λ (u : Slot). u.world) c.slot.view_is in
    let within : i < length s.world.locations = omega (arith, c.loop-index-test.true, c.loop-index.auto.index-end, c.len-index-end.ensures, ap (λ (v : World). length v.locations) world) in
    let out : w (location_place s i) ≡ false = ap w (sym c.location_place-place.ensures) ∙ sym c.has.ensures ∙ c.if-not-has.true in
    sym (next_outside w s s.world.locations i i within out) ∙ c.loop-index.invariant.so_far

pub loop-index-preserved : goal.loop-index-preserved
loop-index-preserved c =
    let w = places_in c.args.reached.now in
    let s = c.args.slot.now in
    let i = c.loop-index.index in
    let world : _ ≡ s.world = c.world.view_is ∙ ap (λ (u : Slot). u.world) c.slot.view_is in
    let within : i < length s.world.locations = omega (arith, c.loop-index-test.true, c.loop-index.auto.index-end, c.len-index-end.ensures, ap (λ (v : World). length v.locations) world) in
    let there : w (location_place s i) ≡ true = ap w (sym c.location_place-place.ensures) ∙ sym c.has.ensures ∙ c.if-not-has.false in
    let one : i + 1 ≡ suc i = omega arith in
    record { so_far = ap (λ k. first_outside w s k (drop k s.world.locations)) one ∙ sym (next_inside w s s.world.locations i i within there) ∙ c.loop-index.invariant.so_far }
