use Rattle.std.proofs.Common.{refl, subst}
use Rattle.mw_reach.specs.Building.{AddsStep, StartsThere}
use Rattle.mw_reach.specs.declared.row.Rows.{Rows}
use Rattle.mw_reach.proofs.Watching.{watched_there}
use Rattle.mw_reach.proofs.watch.add_step.Goals as goal

pub returns-clause-watched : goal.returns-clause-watched
returns-clause-watched c =
    let a = c.args in
    let inside = c.rows.inside in
    let named = a.named.now in
    let old : Rows = record { rows = inside.rows; origins = inside.origins; by_place = inside.by_place; by_item = inside.by_item } in
    let new : Rows = record { rows = c.push.new.self; origins = old.origins; by_place = c.note_start.new.table; by_item = c.note_items.new.table } in
    let at_places = rw (c.len-number.ensures, c.as_slice-places.ensures) at c.in_ok-note_start.ensures in
    let at_items = rw (c.len-number.ensures, c.as_slice-items.ensures) at c.in_ok-note_items.ensures in
    subst (λ (rows : Rows). AddsStep rows new (StartsThere a.start.from a.first_place a.first_item named.items named.places)) c.rows.view_is
    (watched_there a.start.from a.first_place a.first_item named.items named.places old new refl at_places at_items)
