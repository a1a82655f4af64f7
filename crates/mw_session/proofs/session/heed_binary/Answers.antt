use Rattle.std.proofs.Common.{subst}
use Rattle.mw_session.specs.Asked.{asks}
use Rattle.mw_session.specs.Passes.{Acts}
use Rattle.mw_session.proofs.Turns.{heeds_binary}
use Rattle.mw_session.proofs.session.heed_binary.Goals as goal

pub returns : goal.returns
returns g c =
    heeds_binary c.args.session c.args.pass.now c.act_on.result c.act_on.new.pass
    (subst (λ text. Acts (asks c.args.session text) c.args.pass.now c.act_on.result c.act_on.new.pass) c.no_json-text.ensures c.act_on.ensures)
