use Rattle.std.proofs.Common.{[], take}
use Rattle.mw_session.specs.Passes.{Carries}
use Rattle.mw_session.proofs.session.send_all.Given as goal

abbrev pub invariant-loop-text : goal.invariant-loop-text
invariant-loop-text g l = Carries g.L.Link.heard g.L.Link.sent g.L.Link.faults g.L.Link.opened l.initial.link l.link [] (take l.text-index l.texts)
