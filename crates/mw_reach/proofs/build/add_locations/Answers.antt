use Rattle.std.proofs.Common.{◌≡◌, ◌+◌, ◌++◌, ◌∷◌, [], Some, get_or, length, take, ap, subst, arith, ◌∙◌}
use Rattle.std.proofs.lemmas.List.{length_push}
use Rattle.mw_multi.specs.Steps.{location_step, location_steps}
use Rattle.mw_multi.specs.WorldKept.{IsWorld}
use Rattle.mw_reach.specs.Rows.{step_of, steps_in}
use Rattle.mw_reach.specs.declared.row.Row.{Row}
use Rattle.mw_reach.specs.declared.row.Start.{Start}
use Rattle.mw_reach.proofs.Building.{rows_grow, location_is}
use Rattle.mw_reach.proofs.Slots.{location_rule_is, location_start_fits, locations_more}
use Rattle.mw_reach.proofs.build.add_locations.Goals as goal

pub add_ruled-requires-clause-start : goal.add_ruled-requires-clause-start
add_ruled-requires-clause-start g c =
    let joint = c.args.joint.now in
    let slot = c.args.slot.now in
    let i = c.loop-i.i in
    let l = c.location-item.result in
    let kept : IsWorld slot.world = subst (λ s. IsWorld s.world) c.slot.view_is c.slot.invariant.world in
    let locations : c.as_slice-location-items.result.now ≡ slot.world.locations = c.as_slice-location-items.ensures ∙ ap (λ w. w.locations) c.world.view_is ∙ ap (λ s. s.world.locations) c.slot.view_is in
    let here : l ≡ get_or slot.world.locations i l = rw locations at c.location-item.is in
    location_start_fits joint c.args.index slot c.requires.slot kept c.args.first_rule c.requires.numbers i l (rw locations at c.loop-i-test.true) here (c.slot.inside.first_place + c.location.inside.region)
    (omega (arith, ap (λ s. s.first_place) c.slot.view_is, ap (λ x. x.region) c.location.view_is))

pub loop-i-preserved : goal.loop-i-preserved
loop-i-preserved g c =
    let joint = c.args.joint.now in
    let slot = c.args.slot.now in
    let i = c.loop-i.i in
    let l = c.location-item.result in
    let kept : IsWorld slot.world = subst (λ s. IsWorld s.world) c.slot.view_is c.slot.invariant.world in
    let locations : c.as_slice-location-items.result.now ≡ slot.world.locations = c.as_slice-location-items.ensures ∙ ap (λ w. w.locations) c.world.view_is ∙ ap (λ s. s.world.locations) c.slot.view_is in
    let here : l ≡ get_or slot.world.locations i l = rw locations at c.location-item.is in
    let within = rw locations at c.loop-i-test.true in
    let first = ap (λ s. s.first_place) c.slot.view_is in
    let regions = ap (λ w. length w.regions) c.world.view_is ∙ ap (λ s. length s.world.regions) c.slot.view_is in
    let start : Start = record { from = c.slot.inside.first_place + c.location.inside.region; rule = c.args.first_rule + i } in
    let to = c.slot.inside.first_place + c.len.result + i in
    let row : Row = record { slot = c.args.index; start = Some start; to = to } in
    let step : step_of joint row ≡ location_step slot i l =
    location_is joint c.args.index slot c.requires.slot l i start to (omega (arith, first, ap (λ x. x.region) c.location.view_is)) (omega (arith, first, regions, c.len.ensures))
    (location_rule_is joint c.args.index slot c.requires.slot kept c.args.first_rule c.requires.numbers i l within here) in
    record {
      kept = c.in_ok-add_ruled.ensures.kept;
      steps = rows_grow joint c.loop-i.rows c.add_ruled.new.rows row c.in_ok-add_ruled.ensures.rows
          ∙ ap (λ ss. ss ++ step_of joint row ∷ []) c.loop-i.invariant.steps
          ∙ ap (λ s. (steps_in joint c.args.rows.now ++ location_steps slot 0 (take i slot.world.locations)) ++ s ∷ []) step
          ∙ locations_more slot (steps_in joint c.args.rows.now) slot.world.locations i l within here;
      many = omega (arith, ap length c.in_ok-add_ruled.ensures.rows, length_push c.loop-i.rows.rows row, c.loop-i.invariant.many);
    }
