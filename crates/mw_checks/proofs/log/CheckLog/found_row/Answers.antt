use Rattle.std.proofs.Common.{◌==◌, ◌&&◌, length, map, sym, ap, ◌∙◌, subst}
use Rattle.std.specs.List.{count_by}
use Rattle.std.proofs.lemmas.List.{length-map}
use Rattle.mw_model.specs.Seed.{Held}
use Rattle.mw_multidata.specs.SeedKept.{IsSeed}
use Rattle.mw_protocol.specs.Checks.{is_among, locations_in}
use Rattle.mw_checks.specs.Log.{Log}
use Rattle.mw_checks.specs.Rows.{AllBelow, location_of, finder_of}
use Rattle.mw_checks.proofs.Keeping.{shows_read, below_read, shown_all}
use Rattle.mw_checks.proofs.Tied.{found_counted}
use Rattle.mw_checks.proofs.log.CheckLog.found_row.Goals as goal

pub returns-clause-many : goal.returns-clause-many
returns-clause-many c =
    let l = c.self.inside in
    let hs = l.places.locations in
    let rows = l.rows.found.items in
    let ns = c.deref.result.now in
    let team = c.args.team in
    let slot = c.args.slot in
    let few : AllBelow (length hs) ns =
    subst (λ m. AllBelow m ns) (length-map hs finder_of) (below_read (map finder_of hs) l.rows.done.items rows team slot c.found_by.result.now ns c.self.invariant.found_fit c.found_by.ensures.ranges.0 c.found_by.ensures.ranges.1
    c.found_by.ensures.row c.deref.ensures.value) in
    ap (λ (v : Log). length (locations_in team slot v.checked)) (sym c.self.view_is)
    ∙ shown_all location_of hs ns _ few
    (shows_read location_of hs rows (λ t s. locations_in t s l.order.items) team slot c.found_by.result.now ns c.self.invariant.found_are c.found_by.ensures.ranges.0 c.found_by.ensures.ranges.1 c.found_by.ensures.row
    c.deref.ensures.value)

pub returns-clause-found : goal.returns-clause-found
returns-clause-found c =
    let l = c.self.inside in
    let team = c.args.team in
    let slot = c.args.slot in
    let kept : IsSeed l.places = subst IsSeed (c.multidata-kept.ensures.value ∙ c.tables.ensures) c.multidata-kept.ensures.kept in
    sym (returns-clause-many c)
    ∙ ap (λ (v : Log). length (locations_in team slot v.checked)) (sym c.self.view_is)
    ∙ found_counted l.places l.order.items l.rows.done.items l.rows.received.items l.rows.found.items team slot kept c.self.invariant c.found_by.ensures.ranges.0
    ∙ ap (λ (v : Log). count_by (λ (h : Held). (h.slot == slot) && is_among v.checked team slot h.location) v.seed.locations) c.self.view_is
