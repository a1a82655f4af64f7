use Rattle.std.proofs.Common.{◌≡◌, ◌++◌, ◌⊎◌, sym, subst}
use Rattle.mw_journal.proofs.Excluded.{settled_opens}
use Rattle.mw_journal.proofs.Unique.{settled_text}
use Rattle.mw_journal.proofs.opening.open.Goals as goal

pub returns-in-Ok-clause-one : goal.returns-in-Ok-clause-one
returns-in-Ok-clause-one g c f text body told settled =
    let stands = c.in-Ok.ensures.stands f told in
    let now = g.met.D.Disk.told_may_stay c.args.disk f told in
    subst (λ l. (l ≡ text) ⊎ (l ≡ text ++ body)) (sym c.from_vec.ensures)
    (settled_text f c.args.digest.now text body c.in-Ok.found.text.items c.in-Ok.found.place stands.0 (settled f now) stands.1)

pub returns-in-Err-clause-settled : goal.returns-in-Err-clause-settled
returns-in-Err-clause-settled g c f text body told settled =
    settled_opens (g.D.Disk.told c.args.disk) f c.args.digest.now text body (g.D.Disk.faults c.args.disk) (g.D.Disk.faults c.open_bytes.new.disk)
    c.in-Err.error told (settled f (g.met.D.Disk.told_may_stay c.args.disk f told)) c.in-Err.ensures.refused
