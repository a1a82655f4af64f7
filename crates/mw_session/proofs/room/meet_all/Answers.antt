use Rattle.std.proofs.Common.{arith, ◌≡◌, ◌+◌, [], ◌∷◌, ◌++◌, length, length-append, ap, ◌∙◌, subst}
use Rattle.std.specs.Prelude.{IfSome}
use Rattle.std.proofs.lemmas.List.Elements.{All-pop}
use Rattle.mw_session.specs.Rooms.{IsDone, IsReport}
use Rattle.mw_session.proofs.Workers.{met_more, or_false}
use Rattle.mw_session.proofs.room.meet_all.Goals as goal

pub loop-report-preserved : goal.loop-report-preserved
loop-report-preserved g c =
    let both = All-pop (λ r. IsReport g.G.Line.Link.heard g.G.Line.Link.sent g.G.Line.Link.faults g.G.Line.Link.opened g.G.Line.Link.is_shut c.args.room.now r.pass r.share.parts r.share.amount r.served.items r.over r.stopped × IsDone r.over r.memory r.stopped) c.loop-report.done.items c.pop.new.self.items c.pop.result c.pop.ensures.items c.loop-report.invariant.0 in
    let is : IfSome c.pop.result (λ r. IsReport g.G.Line.Link.heard g.G.Line.Link.sent g.G.Line.Link.faults g.G.Line.Link.opened g.G.Line.Link.is_shut c.args.room.now r.pass r.share.parts r.share.amount r.served.items r.over r.stopped × IsDone r.over r.memory r.stopped) = both.1 in
    let one = subst (λ o. IfSome o (λ r. IsReport g.G.Line.Link.heard g.G.Line.Link.sent g.G.Line.Link.faults g.G.Line.Link.opened g.G.Line.Link.is_shut c.args.room.now r.pass r.share.parts r.share.amount r.served.items r.over r.stopped × IsDone r.over r.memory r.stopped)) c.in-Some.is is in
    let cut = c.in-Some.ensures.items in let long : length c.loop-report.done.items ≡ length c.pop.new.self.items + 1 = ap length cut ∙ length-append c.pop.new.self.items (c.in-Some.report ∷ []) in
    let part = one.0.part in let space = c.loop-report.invariant.2 in let parts = c.loop-report.invariant.3 in let many = c.loop-report.invariant.4 in let merged = c.merge.ensures.parts in let len = c.push_reserved.ensures.len in let cap = c.push_reserved.ensures.capacity in (
      both.0,
      met_more g.G.Line.Link.heard g.G.Line.Link.sent g.G.Line.Link.faults g.G.Line.Link.opened g.G.Line.Link.is_shut c.args.room.now c.args.first.now.base c.loop-report.first c.in-Some.report.pass c.meet.new.pass c.loop-report.all.amount c.in-Some.report.share.parts c.in-Some.report.share.amount c.merge.new.self.amount c.loop-report.met.served.items c.push_reserved.new.self.items c.in-Some.report.served.items
          c.in-Some.report.over c.in-Some.report.memory c.loop-report.met.lacking _ c.in-Some.report.stopped c.loop-report.met.stopped c.or-met.result
          c.loop-report.invariant.1 one.0 one.1 c.meet.ensures.met c.merge.ensures.amount (c.push_reserved.ensures.items ∙ ap (λ l. c.loop-report.met.served.items ++ l ∷ []) c.from_vec.ensures)
          (or_false c.loop-report.met.lacking c.in-Some.report.memory) c.or-met.ensures,
      omega arith,
      omega arith,
      omega arith,
    )
