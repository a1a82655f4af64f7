use Rattle.mw_checks.proofs.Numbering.{numbers_within, known_numbered}
use Rattle.mw_checks.proofs.places.Places.number_of.Goals as goal

pub returns-clause-within : goal.returns-clause-within
returns-clause-within c = numbers_within c.args.self.now c.args.slot c.args.location c.look_up.result c.look_up.ensures.value

pub returns-clause-known : goal.returns-clause-known
returns-clause-known c = known_numbered c.args.self.now c.args.slot c.args.location c.look_up.result c.look_up.ensures.value
