use Rattle.std.proofs.Common.{ap, ◌∙◌}
use Rattle.std.specs.Option.{option_or}
use Rattle.mw_session.proofs.Runs.{runs_opened}
use Rattle.mw_session.proofs.session.serve.Goals as goal

pub returns : goal.returns
returns g c =
    runs_opened g.L.Link.heard g.L.Link.sent g.L.Link.faults g.L.Link.opened c.args.time c.in-Opened.session c.args.pass.now c.call-reply.new.pass c.talk-ended.new.pass c.close-lost.new.pass c.args.link.now c.talk-ended.new.link c.talk-ended.result c.close-lost.result c.or.result
    c.in-Opened.ensures.made c.talk-ended.ensures c.close-lost.ensures (c.or.ensures ∙ ap (λ o. option_or o c.close-lost.result) c.stop_at.ensures)
