use Rattle.std.proofs.Common.{◌≡◌, true, false, sym, ◌∙◌, arith}
use Rattle.std.proofs.lemmas.Grind.{common_steps}
use Rattle.mw_model.specs.Seed.{held_at}
use Rattle.mw_protocol.specs.Checks.{has_check}
use Rattle.mw_checks.specs.Log.{check_of}
use Rattle.std.specs.Option.{is_some}
use Rattle.mw_checks.proofs.News.{notes_new, notes_checked, notes_unknown}
use Rattle.mw_checks.proofs.fresh.note.Goals as goal
use Rattle.mw_checks.proofs.fresh.note.Goals.{else-is_some-via-then-is_some+else-not-is_checked, else-is_some-via-else-is_some}

pub returns-in_ok-insert : goal.returns-in_ok-insert
returns-in_ok-insert c =
    let known : is_some (held_at c.args.log.now.seed c.args.pair.0 c.args.pair.1) ≡ true = grind (arith, common_steps) in
    let fresh : has_check c.args.log.now.checked (check_of c.args.team c.args.pair) ≡ false = sym c.is_checked.ensures ∙ c.if-not-is_checked.true in
    notes_new c.args.log.now.seed c.args.log.now.checked c.args.team c.args.pair c.args.found.now.keys c.insert.new.self.keys known fresh c.in_ok-insert.ensures.keys

pub returns-else-is_some : goal.returns-else-is_some
returns-else-is_some c = elim c.else-is_some.branch [
  | else-is_some-via-then-is_some+else-not-is_checked w ↦ notes_checked c.args.log.now.seed c.args.log.now.checked c.args.team c.args.pair c.args.found.now.keys (sym w.is_checked.ensures ∙ w.if-not-is_checked.false)
  | else-is_some-via-else-is_some w ↦ notes_unknown c.args.log.now.seed c.args.log.now.checked c.args.team c.args.pair c.args.found.now.keys (grind (arith, common_steps))
]
