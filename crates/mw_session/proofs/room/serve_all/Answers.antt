use Rattle.std.proofs.Common.{◌≡◌, ◌⊎◌, ◌||◌, nat_lt, true, length, ap, sym, subst, ◌∙◌, inl, arith}
use Rattle.std.specs.Option.{option_or}
use Rattle.std.proofs.lemmas.Bool.{ltb-false}
use Rattle.mw_lock.specs.History.{events}
use Rattle.mw_keep.specs.Standing.{MayReply}
use Rattle.mw_session.specs.Desks.{is_reached, HasNone, IsWithin}
use Rattle.mw_session.specs.Passes.{RoomPass}
use Rattle.mw_session.specs.Rooms.{base_of, OneHistory}
use Rattle.mw_session.proofs.Histories.{history_of, is_full}
use Rattle.mw_session.proofs.Workers.{none_met, or_false}
use Rattle.mw_session.proofs.room.serve_all.Goals as goal

pub meet_all-met-requires-clause-met : goal.meet_all-met-requires-clause-met
meet_all-met-requires-clause-met g c κs within =
    none_met g.G.Line.Link.heard g.G.Line.Link.sent g.G.Line.Link.faults g.G.Line.Link.opened g.G.Line.Link.is_shut c.in-Ok.opened.0 (base_of c.args.room) c.split_all-reports.new.first c.split_all-reports.new.all.amount c.in-Some.rooms.served.items
    (c.split_all-reports.ensures.first ∙ c.in-Ok.ensures.first) c.split_all-reports.ensures.amount c.in-Some.ensures.2

pub returns-clause-history : goal.returns-clause-history
returns-clause-history g c =
    let log = events c.commit-reply.new.first.seen in
    let memory = (c.meet_all-met.result.lacking || nat_lt c.len.result c.args.workers) || c.lacks-short.result in
    let same : c.split_all-reports.new.first.base ≡ base_of c.args.room = ap (λ (z : RoomPass _). z.base) c.split_all-reports.ensures.first ∙ ap (λ (z : RoomPass _). z.base) c.in-Ok.ensures.first in
    let one = history_of g.G.Line.Link.heard g.G.Line.Link.sent g.G.Line.Link.faults g.G.Line.Link.opened g.G.Line.Link.is_shut (MayReply g.D.Disk.may_leave) c.in-Ok.opened.0 c.split_all-reports.new.first.base c.meet_all-met.new.first c.commit-reply.new.first c.meet_all-met.new.all.amount c.meet_all-met.result.served.items c.meet_all-met.result.lacking memory c.meet_all-met.result.stopped c.or-stopped.result c.commit-reply.result
    c.meet_all-met.ensures.met c.commit-reply.ensures c.close_all-room.ensures.whole (c.or-stopped.ensures ∙ ap (λ h. option_or h c.meet_all-met.result.stopped) c.stop_by.ensures) (λ fine. sym c.lacks-short.ensures ∙ (or_false _ c.lacks-short.result fine).1) in
    inl (
      log,
      c.close_all-room.ensures.stands,
      c.close_all-room.ensures.base ∙ (ap (λ (z : RoomPass _). z.base) c.commit-reply.ensures.1 ∙ (c.meet_all-met.ensures.met.of_base ∙ same)),
      subst (λ l. OneHistory g.G.Line.Link.heard g.G.Line.Link.sent g.G.Line.Link.faults g.G.Line.Link.opened g.G.Line.Link.is_shut (MayReply g.D.Disk.may_leave) (base_of c.args.room) log l memory c.or-stopped.result) (sym c.from_vec.ensures)
          (subst (λ b. OneHistory g.G.Line.Link.heard g.G.Line.Link.sent g.G.Line.Link.faults g.G.Line.Link.opened g.G.Line.Link.is_shut (MayReply g.D.Disk.may_leave) b log c.meet_all-met.result.served.items memory c.or-stopped.result) same one),
    )

pub returns-clause-all : goal.returns-clause-all
returns-clause-all g c =
    let met = c.meet_all-met.ensures.met in let end = c.end-gate.ensures.amount in
    let many = c.meet_all-met.ensures.many in let all = c.work_all-done.ensures.all in let few = c.split_all-reports.ensures.few in let fits = c.ranges.workers.fits in let counted = met.counted in let know = met.few in let one = end.1 in let two = end.2 in
    let none = ap length c.in-Some.ensures.1 in let empty = ap length c.in-Some.ensures.2 in let ok = c.in-Some.rooms.served.ok.0 in
    is_full c.args.accept c.end-gate.result.2 c.meet_all-met.result.lacking _ _ c.meet_all-met.result.stopped c.stop_by.result c.or-stopped.result c.end-gate.result.1 (g.G.Gate.left c.end-gate.result.0) (g.G.Gate.ended c.end-gate.result.0) end.0 met.know c.args.workers (length c.meet_all-met.result.served.items)
    (subst (λ m. IsWithin m c.end-gate.result.1) (sym c.requires.limit) c.end-gate.ensures.within) c.or-stopped.ensures (omega arith) c.requires.workers
    (λ e. let came = ltb-false c.len.result c.args.workers e in let len = c.len.ensures in omega arith) met.all_know
    (λ some fine. subst (λ m. (is_reached m c.end-gate.result.1 ≡ true) ⊎ HasNone (g.G.Gate.left c.end-gate.result.0) (g.G.Gate.ended c.end-gate.result.0)) (sym c.requires.limit) (end.3 some fine))
