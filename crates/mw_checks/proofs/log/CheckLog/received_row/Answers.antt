use Rattle.std.proofs.Common.{length, map, subst}
use Rattle.std.proofs.lemmas.List.{length-map}
use Rattle.mw_checks.specs.Log.{Log}
use Rattle.mw_checks.specs.Rows.{AllBelow, receivers_of}
use Rattle.mw_checks.proofs.Keeping.{below_read}
use Rattle.mw_checks.proofs.log.CheckLog.received_row.Goals as goal

pub returns-clause-below : goal.returns-clause-below
returns-clause-below c =
    let l = c.self.inside in
    let hs = l.places.locations in
    let ns = c.deref.result.now in
    subst (λ (v : Log). AllBelow (length v.seed.locations) ns) c.self.view_is
    (subst (λ m. AllBelow m ns) (length-map hs (receivers_of l.places)) (below_read (map (receivers_of l.places) hs) l.rows.done.items l.rows.received.items c.args.team c.args.slot c.received_by.result.now ns c.self.invariant.received_fit
    c.received_by.ensures.ranges.0 c.received_by.ensures.ranges.1 c.received_by.ensures.row c.deref.ensures.value))
