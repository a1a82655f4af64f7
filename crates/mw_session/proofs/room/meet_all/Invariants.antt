use Rattle.std.proofs.Common.{◌≡◌, ◌+◌, ◌≤◌, All, length}
use Rattle.std.specs.Prelude.{vec_len, vec_capacity}
use Rattle.mw_session.specs.Rooms.{HasMet, IsDone, IsReport}
use Rattle.mw_session.proofs.room.meet_all.Given as goal

abbrev pub invariant-loop-report : goal.invariant-loop-report
invariant-loop-report g l =
    All (λ r. IsReport g.G.Line.Link.heard g.G.Line.Link.sent g.G.Line.Link.faults g.G.Line.Link.opened g.G.Line.Link.is_shut l.room r.pass r.share.parts r.share.amount r.served.items r.over r.stopped × IsDone r.over r.memory r.stopped) l.done.items
    × HasMet g.G.Line.Link.heard g.G.Line.Link.sent g.G.Line.Link.faults g.G.Line.Link.opened g.G.Line.Link.is_shut l.room l.initial.first.base l.first l.all.amount l.met.served.items l.met.lacking l.met.stopped
    × (vec_len l.met.served + length l.done.items ≤ vec_capacity l.met.served)
    × (l.all.parts + length l.done.items ≡ l.initial.all.parts + length l.initial.done.items)
    × (vec_len l.met.served + length l.done.items ≡ vec_len l.initial.met.served + length l.initial.done.items)

abbrev pub decreases-loop-report : goal.decreases-loop-report
decreases-loop-report g l = length l.done.items
