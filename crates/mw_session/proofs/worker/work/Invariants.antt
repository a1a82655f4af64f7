use Rattle.mw_session.specs.Rooms.{IsReport}
use Rattle.mw_session.proofs.worker.work.Given as goal

abbrev pub invariant-loop : goal.invariant-loop
invariant-loop g l = IsReport g.G.Line.Link.heard g.G.Line.Link.sent g.G.Line.Link.faults g.G.Line.Link.opened g.G.Line.Link.is_shut l.room l.report.pass l.report.share.parts l.report.share.amount l.report.served.items l.report.over l.report.stopped
