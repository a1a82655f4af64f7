use Rattle.std.proofs.Common.{subst}
use Rattle.mw_session.specs.Passes.{TakesAll}
use Rattle.mw_session.proofs.Turns.{turned_heard}
use Rattle.mw_session.proofs.session.turn.Goals as goal

pub returns-in-Ok : goal.returns-in-Ok
returns-in-Ok g c = let taken = subst (λ o. TakesAll g.L.Link.heard g.L.Link.sent g.L.Link.faults g.L.Link.opened c.args.session c.args.pass.now c.args.link.now o c.take_all.new.pass c.take_all.new.link) c.in_default.is c.take_all.ensures in
    turned_heard g.L.Link.heard g.L.Link.sent g.L.Link.faults g.L.Link.opened c.args.session c.args.pass.now c.take_all.new.pass c.args.link.now c.take_all.new.link taken c.recv.new.self c.recv.ensures.sent c.recv.ensures.cause.later c.recv.ensures.opened c.in-Ok.heard c.in-Ok.ensures.heard c.heed.new.pass c.heed.result c.heed.ensures
