use Rattle.std.proofs.Common.{refl, ◌∙◌, ap, subst, ◌++◌, ◌∷◌, []}
use Rattle.mw_reach.specs.Building.{AddsStep, StartsNowhere}
use Rattle.mw_reach.specs.declared.row.Rows.{Rows}
use Rattle.mw_reach.proofs.Watching.{watched_nowhere}
use Rattle.mw_reach.proofs.watch.add_origin.Goals as goal

pub returns-clause-watched : goal.returns-clause-watched
returns-clause-watched c =
    let inside = c.rows.inside in
    let old : Rows = record { rows = inside.rows; origins = inside.origins; by_place = inside.by_place; by_item = inside.by_item } in
    let new : Rows = record { rows = c.push.new.self; origins = c.push-2.new.self; by_place = old.by_place; by_item = old.by_item } in
    subst (λ (rows : Rows). AddsStep rows new StartsNowhere) c.rows.view_is (watched_nowhere old new (c.in_ok-push-2.ensures.ok ∙ ap (λ n. old.origins ++ n ∷ []) c.len-number.ensures) refl refl)
