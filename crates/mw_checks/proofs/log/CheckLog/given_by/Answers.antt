use Rattle.std.proofs.Common.{◌≡◌, IfOk, ap, subst}
use Rattle.mw_model.specs.Seed.{Seed}
use Rattle.mw_protocol.specs.Checks.{items_found}
use Rattle.mw_checks.specs.Log.{Log, checks_of}
use Rattle.mw_checks.specs.Views.{asked_of}
use Rattle.mw_checks.proofs.Giving.{results_given}
use Rattle.mw_checks.proofs.log.CheckLog.given_by.Goals as goal

pub returns : goal.returns
returns c =
    subst (λ (s : Seed). IfOk c.given.result (λ is. is ≡ asked_of record { slot = c.args.slot; mask = c.args.mask } (items_found s c.args.team c.args.slot (checks_of c.args.team c.args.pairs.now))))
    (ap (λ (l : Log). l.seed) c.self.view_is)
    (results_given c.self.inside.places c.args.mask c.args.team c.args.slot c.args.pairs.now c.given.result c.given.ensures)
