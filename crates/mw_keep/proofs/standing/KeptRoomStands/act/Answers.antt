use Rattle.std.proofs.Common.{◌<◌, ◌≤◌, ◌∙◌, ◌++◌, ◌∷◌, [], inl, inr, sym, ap, subst, arith}
use Rattle.std.specs.Option.{is_some}
use Rattle.mw_journal.specs.Journal.{disk_of}
use Rattle.mw_protocol.specs.Lives.{new_life}
use Rattle.mw_keep.specs.Keeps.{Keeps, kept_disk}
use Rattle.mw_keep.specs.Standing.{Began, lived}
use Rattle.mw_keep.proofs.Lived.{fault_more, lived_more, replied_more}
use Rattle.mw_keep.proofs.standing.KeptRoomStands.act.Goals as goal

pub returns-clause-reply : goal.returns-clause-reply
returns-clause-reply g c past so_far digest seed journal place began =
    let h = so_far digest seed journal place began in
    let acts = c.act.ensures.acts digest (lived (new_life seed journal place) past h.lucks) h.keeps in
    (h.lucks, acts.luck, h.replied, acts.replies)

pub returns-clause-stands : goal.returns-clause-stands
returns-clause-stands g c past so_far digest seed journal place began =
    let faults = g.D.Disk.faults in
    let life = new_life seed journal place in
    let h = so_far digest seed journal place (subst (Began g.D.Disk.may_leave digest seed journal place) c.act.ensures.origin began) in
    let acts = c.act.ensures.acts digest (lived life past h.lucks) h.keeps in
    let first = ap (λ o. faults (disk_of o.journal.value)) (sym c.act.ensures.origin) in
    let count = c.act.ensures.count in
    record {
      lucks = h.lucks ++ acts.luck ∷ [];
      replied = replied_more c.args.call c.act.result acts.luck life past h.lucks h.replied acts.replies;
      keeps = subst (λ l. Keeps g.D.Disk.may_leave digest l c.act.new.self) (sym (lived_more c.args.call c.act.result acts.luck life past h.lucks h.replied)) acts.keeps;
      later = subst (λ n. n ≤ faults (kept_disk c.act.new.self)) first (omega (arith, h.later, count));
      fault = λ unlucky. subst (λ n. n < faults (kept_disk c.act.new.self)) first (elim (fault_more h.lucks acts.luck unlucky) [
        | inl before ↦ let rose = h.fault before in omega (arith, rose, count)
        | inr now ↦ let rose = acts.fault now in omega (arith, h.later, rose)
      ]);
      tells = c.act.ensures.tells ∙ (h.tells ∙ ap (λ o. is_some (g.D.Disk.told (disk_of o.journal.value))) (sym c.act.ensures.origin));
    }
