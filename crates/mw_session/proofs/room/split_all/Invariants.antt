use Rattle.std.proofs.Common.{◌≡◌, ◌+◌, ◌≤◌, All, length}
use Rattle.std.specs.Prelude.{vec_capacity}
use Rattle.mw_session.specs.Rooms.{IsReport}
use Rattle.mw_session.proofs.room.split_all.Given as goal

abbrev pub invariant-loop : goal.invariant-loop
invariant-loop g l =
    (l.first ≡ l.initial.first)
    × All (λ r. IsReport g.G.Line.Link.heard g.G.Line.Link.sent g.G.Line.Link.faults g.G.Line.Link.opened g.G.Line.Link.is_shut l.room r.pass r.share.parts r.share.amount r.served.items r.over r.stopped) l.reports.items
    × (length l.reports.items ≤ l.counter) × (vec_capacity l.reports ≡ vec_capacity l.initial.reports)
    × (l.all.parts + length l.reports.items ≡ l.initial.all.parts) × (l.all.amount ≡ 0)
