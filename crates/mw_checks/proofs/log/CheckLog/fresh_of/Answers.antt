use Rattle.mw_protocol.specs.Checks.{checks_at}
use Rattle.mw_checks.proofs.News.{results_at, results_fresh}
use Rattle.mw_checks.proofs.log.CheckLog.fresh_of.Goals as goal

pub returns-clause-checks : goal.returns-clause-checks
returns-clause-checks c = results_at c.args.self.now.seed c.args.self.now.checked c.args.team c.args.slot c.args.numbers.now c.fresh_numbers.result c.fresh_numbers.ensures

pub returns-clause-fresh : goal.returns-clause-fresh
returns-clause-fresh c = results_fresh c.args.self.now.seed (checks_at c.args.team c.args.slot c.args.numbers.now) c.args.self.now.checked c.args.team c.fresh_numbers.result c.fresh_numbers.ensures
