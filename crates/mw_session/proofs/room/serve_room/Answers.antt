use Rattle.mw_session.proofs.Numbers.{none_twice}
use Rattle.mw_session.proofs.room.serve_room.Goals as goal

pub returns-clause-numbers : goal.returns-clause-numbers
returns-clause-numbers g c = none_twice g.G.Line.Link.heard g.G.Line.Link.sent g.G.Line.Link.faults g.G.Line.Link.opened g.G.Line.Link.is_shut g.D.Disk.may_leave g.D.Disk.told g.D.Disk.faults c.args.room c.serve_all.result.room c.serve_all.result.served c.serve_all.result.memory c.serve_all.result.stopped c.serve_all.ensures.history
