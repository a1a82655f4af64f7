use Rattle.std.proofs.Common.{map, subst}
use Rattle.mw_session.specs.Asked.{asks, call_for}
use Rattle.mw_session.specs.Passes.{Acts}
use Rattle.mw_session.proofs.session.act_on.Goals as goal

pub returns-in-Ok : goal.returns-in-Ok
unfolding asks
returns-in-Ok g c = subst (λ l. Acts (map (call_for c.args.session) l) c.args.pass.now c.act_all.result c.act_all.new.pass) c.in-Ok.ensures c.act_all.ensures
