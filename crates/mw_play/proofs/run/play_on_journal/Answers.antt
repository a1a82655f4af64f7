use Rattle.std.proofs.Common.{inr, ap, sym, subst}
use Rattle.std.specs.Prelude.{Err}
use Rattle.mw_journal.specs.Journal.{disk_of}
use Rattle.mw_play.specs.Runs.{StopsFrom, end_of_cut}
use Rattle.mw_play.specs.Turns.{LeavesLast}
use Rattle.mw_play.specs.declared.end.PlayEnd.{PlayEnd}
use Rattle.mw_play.specs.declared.over.CutShort.{CutShort}
use Rattle.mw_play.proofs.Carried.{cut_stops}
use Rattle.mw_play.proofs.Kept.{keeps_holds}
use Rattle.mw_play.proofs.run.play_on_journal.Goals as goal

pub returns-in-Ok-clause-done : goal.returns-in-Ok-clause-done
returns-in-Ok-clause-done g c = λ digest told keeps was. record {
  list = c.args.list.now;
  was = was;
  plays = c.in-Ok.ensures.plays;
  saved = λ i left. keeps_holds g.D.Disk.may_leave g.D.Disk.moment g.D.Disk.left_since g.met.D.Disk.only_now digest c.play_on.new.journal c.in-Ok.played.play.list (c.in-Ok.ensures.keeps digest keeps) i
      (subst (λ (d : g.row.D.Denot). g.D.Disk.may_leave d i) c.into_disk.ensures left);
}

pub returns-in-Ok-clause-left : goal.returns-in-Ok-clause-left
returns-in-Ok-clause-left g c = λ digest told keeps was.
    let before = g.L.Dial.hung_up c.args.dial.now in
    let after = g.L.Dial.hung_up c.play_on.new.dial in
    inr (c.args.list.now, was, subst (λ (d : g.row.D.Denot). LeavesLast (g.D.Disk.may_leave d) digest c.args.list.now before after) (sym c.into_disk.ensures) (c.play_on.ensures.last digest keeps))

pub returns-in-Err-clause-stopped : goal.returns-in-Err-clause-stopped
returns-in-Err-clause-stopped g c = λ digest told keeps was.
    let before = g.L.Dial.hung_up c.args.dial.now in
    let after = g.L.Dial.hung_up c.play_on.new.dial in
    subst (λ (e : PlayEnd). StopsFrom told (g.D.Disk.may_leave c.into_disk-in-Err.result) digest before after e) (sym c.cut_end.ensures)
    (subst (λ (d : g.row.D.Denot). StopsFrom told (g.D.Disk.may_leave d) digest before after (end_of_cut c.in-Err.cut)) (sym c.into_disk-in-Err.ensures)
    (cut_stops told (g.D.Disk.may_leave (disk_of c.play_on.new.journal)) digest c.args.list.now before after c.in-Err.cut was (λ is. c.in-Err.ensures.full digest keeps (ap (λ (w : CutShort). Err w) is))))

pub returns-in-Err-clause-left : goal.returns-in-Err-clause-left
returns-in-Err-clause-left g c = λ digest told keeps was.
    let before = g.L.Dial.hung_up c.args.dial.now in
    let after = g.L.Dial.hung_up c.play_on.new.dial in
    inr (c.args.list.now, was, subst (λ (d : g.row.D.Denot). LeavesLast (g.D.Disk.may_leave d) digest c.args.list.now before after) (sym c.into_disk-in-Err.ensures) (c.play_on.ensures.last digest keeps))
