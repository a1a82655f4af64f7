use Rattle.std.proofs.Common.{rules}
use Rattle.mw_native.proofs.Telling.{answers_at}
use Rattle.mw_native.proofs.told.ToldRuling.ask.Goals as goal

pub ask-requires : goal.ask-requires
ask-requires g c =
    let there = answers_at _ _ _ c.requires.0 _ c.requires.1 c.requires.2 in
    let callable = there.callable c.args.counts c.args.places c.requires.3 in search rules

pub returns-clause-answer : goal.returns-clause-answer
returns-clause-answer g c = λ rules told below within. (answers_at _ _ _ rules _ told below).answer _ _ _ within c.ask.ensures
