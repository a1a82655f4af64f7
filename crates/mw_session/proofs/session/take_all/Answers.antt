use Rattle.std.proofs.Common.{sym, ◌∙◌}
use Rattle.mw_session.proofs.Turns.{takes_end}
use Rattle.mw_session.proofs.session.take_all.Goals as goal

pub returns-in-Some : goal.returns-in-Some
returns-in-Some g c =
    takes_end g.L.Link.heard g.L.Link.sent g.L.Link.faults g.L.Link.opened c.args.session c.args.pass.now c.call-reply.new.pass c.args.link.now c.call-reply.result c.in-Some.ended c.call-reply.ensures.made (sym c.end_by.ensures ∙ c.in-Some.is)
