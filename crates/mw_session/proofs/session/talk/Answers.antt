use Rattle.std.proofs.Common.{subst, [], ◌∙◌}
use Rattle.std.specs.Prelude.{None}
use Rattle.mw_session.specs.Passes.{Turned}
use Rattle.mw_session.proofs.Turns.{makes_none, carries_none, whole_none, so_far_more, so_far_ends, turned_lock}
use Rattle.mw_session.proofs.session.talk.Goals as goal

pub loop-init : goal.loop-init
loop-init g c = (c.requires.lock, ([], [], [], makes_none c.args.pass.now, carries_none g.L.Link.heard g.L.Link.sent g.L.Link.faults g.L.Link.opened c.args.link.now, whole_none c.args.session))

pub returns-in-Some-turn : goal.returns-in-Some-turn
returns-in-Some-turn g c = let turned = subst (λ o. Turned g.L.Link.heard g.L.Link.sent g.L.Link.faults g.L.Link.opened c.args.session c.loop.pass c.loop.link o c.turn.new.pass c.turn.new.link) c.in-Some-turn.is c.turn.ensures in
    so_far_ends g.L.Link.heard g.L.Link.sent g.L.Link.faults g.L.Link.opened c.args.session c.args.pass.now c.loop.pass c.turn.new.pass c.args.link.now c.loop.link c.turn.new.link c.loop.invariant.1 c.in-Some-turn.ended turned

pub loop-preserved : goal.loop-preserved
loop-preserved g c = let turned = subst (λ o. Turned g.L.Link.heard g.L.Link.sent g.L.Link.faults g.L.Link.opened c.args.session c.loop.pass c.loop.link o c.turn.new.pass c.turn.new.link) c.in_default.is c.turn.ensures in (
  turned_lock g.L.Link.heard g.L.Link.sent g.L.Link.faults g.L.Link.opened c.args.session c.loop.pass c.turn.new.pass c.loop.link c.turn.new.link None turned ∙ c.loop.invariant.0,
  so_far_more g.L.Link.heard g.L.Link.sent g.L.Link.faults g.L.Link.opened c.args.session c.args.pass.now c.loop.pass c.turn.new.pass c.args.link.now c.loop.link c.turn.new.link c.loop.invariant.1 turned,
)
