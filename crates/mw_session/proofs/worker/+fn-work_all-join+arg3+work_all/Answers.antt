use Rattle.std.proofs.Common.{rules, arith, ◌≡◌, ◌+◌, [], ◌∷◌, length, length-append, ap, ◌∙◌, subst}
use Rattle.std.proofs.lemmas.List.Elements.{All-pop, All-push, All-same}
use Rattle.std.specs.Prelude.{IfSome}
use denote.Param.{param}
use denote.Param.Send.{IsSend, IsSync, sendable}
use Rattle.mw_keep.specs.contracts.kept.KeptRoom as kept
use Rattle.std.proofs.Crossing.{crosses}
use Rattle.mw_keep.proofs.Crosses.{kept_send}
use Rattle.mw_session.proofs.Crosses.{desk_send, report_send}
use Rattle.mw_lock.proofs.Crosses.{lock_sync}
use Rattle.mw_session.specs.Rooms.{IsDone, IsReport}
use Rattle.mw_session.proofs.worker.+fn-work_all-join+arg3+work_all.Goals as goal

pub join-report-requires-send-F : goal.join-report-requires-send-F
join-report-requires-send-F g t c κs within = let gs : IsSend (param 0 g.row.G) = search rules in let ds : IsSend (param 1 g.row.D) = search rules in let ls : IsSend (param 2 g.row.L) = search rules in
    let rs : IsSync (param 3 g.row.R) = search rules in let ns : IsSend (param 4 g.row.G-Line) = search rules in
    let v : IsSend (kept.the_row (param 1 g.row.D)) = kept_send (param 1 g.row.D) ds in search (sendable, crosses, desk_send, report_send, lock_sync) depth 40

pub join-report-requires-send-A : goal.join-report-requires-send-A
join-report-requires-send-A g t c κs within = let ds : IsSend (param 1 g.row.D) = search rules in let ls : IsSend (param 2 g.row.L) = search rules in let ns : IsSend (param 4 g.row.G-Line) = search rules in
    let v : IsSend (kept.the_row (param 1 g.row.D)) = kept_send (param 1 g.row.D) ds in search (sendable, report_send) depth 40

pub join-report-requires-after_bounds : goal.join-report-requires-after_bounds
join-report-requires-after_bounds g t c κs within = let sent : IsSend (param 0 g.row.G) × IsSend (param 1 g.row.D) × IsSend (param 2 g.row.L) × IsSync (param 3 g.row.R) = search rules in
    let all : IsSend (param 0 g.row.G) × IsSend (param 1 g.row.D) × IsSend (param 2 g.row.L) × IsSend (param 4 g.row.G-Line) × IsSync (param 3 g.row.R) = search rules in
    let both = All-pop (λ r. IsReport g.G.Line.Link.heard g.G.Line.Link.sent g.G.Line.Link.faults g.G.Line.Link.opened g.G.Line.Link.is_shut c.args.room.now r.pass r.share.parts r.share.amount r.served.items r.over r.stopped) c.args.reports.items c.pop.new.self.items c.pop.result c.pop.ensures.items c.requires.reports in
    let is : IfSome c.pop.result (λ r. IsReport g.G.Line.Link.heard g.G.Line.Link.sent g.G.Line.Link.faults g.G.Line.Link.opened g.G.Line.Link.is_shut c.args.room.now r.pass r.share.parts r.share.amount r.served.items r.over r.stopped) = both.1 in
    let one = subst (λ o. IfSome o (λ r. IsReport g.G.Line.Link.heard g.G.Line.Link.sent g.G.Line.Link.faults g.G.Line.Link.opened g.G.Line.Link.is_shut c.args.room.now r.pass r.share.parts r.share.amount r.served.items r.over r.stopped)) c.in-Some.is is in
    let cut = c.in-Some.ensures.items in let long : length c.args.reports.items ≡ length c.pop.new.self.items + 1 = ap length cut ∙ length-append c.pop.new.self.items (c.in-Some.report ∷ []) in
    let room = c.requires.room in
    ((one, search rules), (search rules, ((λ a h. h), ((λ a h. h), ((λ a h. h), ((λ a h. h), ((λ a h. h), (sent, (both.0, (c.requires.done, (omega arith, all)))))))))))

pub returns-clause-reports : goal.returns-clause-reports
returns-clause-reports g t c = All-same (λ r. IsReport g.G.Line.Link.heard g.G.Line.Link.sent g.G.Line.Link.faults g.G.Line.Link.opened g.G.Line.Link.is_shut c.args.room.now r.pass r.share.parts r.share.amount r.served.items r.over r.stopped × IsDone r.over r.memory r.stopped) _ _ c.push_reserved.ensures.items (All-push (λ r. IsReport g.G.Line.Link.heard g.G.Line.Link.sent g.G.Line.Link.faults g.G.Line.Link.opened g.G.Line.Link.is_shut c.args.room.now r.pass r.share.parts r.share.amount r.served.items r.over r.stopped × IsDone r.over r.memory r.stopped) _ _ c.join-report.ensures.second.0 c.join-report.ensures.first)
