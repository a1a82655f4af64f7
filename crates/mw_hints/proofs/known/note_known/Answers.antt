use Rattle.std.proofs.Common.{◌≡◌, true, false, arith}
use Rattle.std.specs.Option.{is_some}
use Rattle.std.proofs.lemmas.Grind.{common_steps}
use Rattle.mw_model.specs.Seed.{held_at}
use Rattle.mw_hints.proofs.Noting.{one_noted, none_noted}
use Rattle.mw_hints.proofs.known.note_known.Goals as goal

pub returns-in_ok-insert : goal.returns-in_ok-insert
returns-in_ok-insert g c = λ others.
    let seed = g.C.Checks.seed c.args.log.now in
    let there : is_some (held_at seed c.args.slot c.args.location) ≡ true = grind (arith, common_steps, c.held.ensures) in
    one_noted seed c.args.team c.args.slot c.args.location c.args.found.now.keys c.insert.new.self.keys others there c.in_ok-insert.ensures.keys

pub returns-else-is_some : goal.returns-else-is_some
returns-else-is_some g c = λ others.
    let seed = g.C.Checks.seed c.args.log.now in
    let unknown : is_some (held_at seed c.args.slot c.args.location) ≡ false = grind (arith, common_steps, c.held.ensures) in
    none_noted seed c.args.team c.args.slot c.args.location c.args.found.now.keys others unknown
