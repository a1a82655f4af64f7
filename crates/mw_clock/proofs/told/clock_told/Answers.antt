use Rattle.mw_clock.specs.Clockwork.{clock_rules}
use Rattle.mw_clock.proofs.AnsweredEach.{answers_each}
use Rattle.mw_clock.proofs.told.clock_told.Goals as goal

pub new-requires-clause-told : goal.new-requires-clause-told
new-requires-clause-told g c = (clock_rules c.args.gears, answers_each _ _ c.args.gears c.args.named c.requires.names c.requires.answers)

pub returns : goal.returns
returns g c = c.new.ensures (clock_rules c.args.gears) (answers_each _ _ c.args.gears c.args.named c.requires.names c.requires.answers)
