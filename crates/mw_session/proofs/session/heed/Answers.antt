use Rattle.std.proofs.Common.{subst, sym}
use Rattle.std.specs.Prelude.{Some}
use Rattle.mw_session.specs.declared.ended.Ended.TheVariants.{Closed}
use Rattle.mw_session.specs.Passes.{Heeds}
use Rattle.mw_session.proofs.Turns.{heeds_end}
use Rattle.mw_session.proofs.session.heed.Goals as goal

pub returns-in-End : goal.returns-in-End
returns-in-End g c =
    subst (λ h. Heeds c.args.session h c.args.pass.now (Some Closed) c.args.pass.now) (sym c.in-End.is) (heeds_end c.args.session c.args.pass.now)
