use Rattle.std.proofs.Common.{◌∙◌, length, sym, ap, arith}
use Rattle.std.specs.Prelude.{find}
use Rattle.std.proofs.lemmas.Slice.{between_to_end}
use Rattle.mw_reach.specs.Reached.{places_in}
use Rattle.mw_fill.specs.Fill.{is_allowed_if}
use Rattle.mw_fill.specs.Kept.{is_open_in}
use Rattle.mw_fill.proofs.Fitting.{past_taken}
use Rattle.mw_fill.proofs.allowed.first_after.Goals as goal

pub returns : goal.returns
returns c =
    let openings = c.args.openings.now in
    let held = c.args.held.now in
    let test = is_allowed_if c.args.joint.now c.args.missed (places_in c.args.reached.now) c.args.copy.now in
    c.first_of.ensures ∙ ap (find (is_open_in test held)) (between_to_end openings c.args.from (length openings) (omega arith)) ∙ sym (past_taken test held openings c.args.from c.requires.taken)
