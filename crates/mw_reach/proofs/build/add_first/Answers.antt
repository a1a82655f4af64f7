use Rattle.std.proofs.Common.{◌+◌, ◌<◌, ◌++◌, [], ◌∷◌, None, length, refl, ap, arith, ◌∙◌}
use Rattle.std.proofs.lemmas.List.{length-map}
use Rattle.mw_multi.specs.Joint.{place_total, item_total}
use Rattle.mw_reach.specs.Building.{StartsNowhere}
use Rattle.mw_reach.specs.Rows.{step_of, steps_in}
use Rattle.mw_reach.specs.declared.row.Row.{Row}
use Rattle.mw_reach.proofs.Building.{one_origin_more, rows_grow, origin_row_fits, origin_is}
use Rattle.mw_reach.proofs.build.add_first.Goals as goal

pub returns-clause-kept : goal.returns-clause-kept
returns-clause-kept c =
    let joint = c.args.joint.now in
    let old = c.args.rows.now in
    let to = c.slot.inside.first_place + c.world.inside.origin in
    let row : Row = record { slot = c.args.index; start = None; to = to } in
    let nowhere : StartsNowhere (step_of joint row) = record { from_is = refl; rule_is = refl } in
    let slot = c.args.slot.now in
    let first = ap (λ s. s.first_place) c.slot.view_is in
    let origin = ap (λ w. w.origin) c.world.view_is ∙ ap (λ s. s.world.origin) c.slot.view_is in
    let regions = ap (λ w. length w.regions) c.world.view_is ∙ ap (λ s. length s.world.regions) c.slot.view_is in
    let within : to < place_total joint.slots = omega (arith, c.requires.slot.places, c.world.invariant.origin, first, origin, regions) in
    let added = c.in_ok-add_origin.ensures in
    one_origin_more joint (place_total joint.slots) (item_total joint.slots) old c.add_origin.new.rows row c.requires.rows
    (origin_row_fits joint c.args.index c.args.slot.now c.requires.slot to within) added.rows added.sizes.0 added.sizes.1
    (added.watched (steps_in joint old) (step_of joint row) nowhere (length-map old.rows (step_of joint)) c.requires.rows.watched) refl added.origins

pub returns-clause-steps : goal.returns-clause-steps
returns-clause-steps c =
    let joint = c.args.joint.now in
    let slot = c.args.slot.now in
    let old = c.args.rows.now in
    let to = c.slot.inside.first_place + c.world.inside.origin in
    let row : Row = record { slot = c.args.index; start = None; to = to } in
    let first = ap (λ s. s.first_place) c.slot.view_is in
    let origin = ap (λ w. w.origin) c.world.view_is ∙ ap (λ s. s.world.origin) c.slot.view_is in
    rows_grow joint old c.add_origin.new.rows row c.in_ok-add_origin.ensures.rows ∙ ap (λ s. steps_in joint old ++ s ∷ []) (origin_is joint c.args.index slot c.requires.slot to (omega (arith, first, origin)))
