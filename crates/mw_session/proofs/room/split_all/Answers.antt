use Rattle.std.proofs.Common.{arith, ◌≡◌, ◌+◌, [], ◌∷◌, length, length-append, ap, ◌∙◌}
use Rattle.std.proofs.lemmas.List.Elements.{All-push, All-same}
use Rattle.mw_session.specs.Rooms.{IsReport}
use Rattle.mw_session.proofs.room.split_all.Goals as goal

pub loop-preserved : goal.loop-preserved
loop-preserved g c =
    let h = c.loop.invariant in let e = c.in-Some.ensures in let items = c.push_reserved.ensures.items in
    let long : length c.push_reserved.new.self.items ≡ length c.loop.reports.items + 1 = ap length items ∙ length-append c.loop.reports.items (c.in-Some.report ∷ []) in
    let few = h.2 in let cap = h.3 in let parts = h.4 in let more = e.parts in let same = c.push_reserved.ensures.capacity in (
      e.first ∙ h.0,
      All-same (λ r. IsReport g.G.Line.Link.heard g.G.Line.Link.sent g.G.Line.Link.faults g.G.Line.Link.opened g.G.Line.Link.is_shut c.args.room.now r.pass r.share.parts r.share.amount r.served.items r.over r.stopped) _ _ items (All-push (λ r. IsReport g.G.Line.Link.heard g.G.Line.Link.sent g.G.Line.Link.faults g.G.Line.Link.opened g.G.Line.Link.is_shut c.args.room.now r.pass r.share.parts r.share.amount r.served.items r.over r.stopped) _ _ h.1 e.report),
      omega arith,
      omega arith,
      omega arith,
      e.amount,
    )
