use Rattle.std.proofs.Common.{◌≤◌, ◌+◌, length, arith, subst}
use Rattle.mw_reach.specs.Bound.{asks_naming, asks_at, new_in}
use Rattle.mw_reach.specs.Worklist.{paid, numbers_of}
use Rattle.mw_reach.proofs.Counting.{asked_more, named_of_rows}
use Rattle.mw_reach.proofs.least.make_more.Goals as goal

pub returns-clause-steps : goal.returns-clause-steps
returns-clause-steps g c =
    let joint = c.args.joint.now in
    let into = c.args.into.now in
    let rows = into.rows in
    let more = c.args.more.now in
    let placed = c.args.placed.now in
    let old = into.tally.done.items in
    let new = c.go_on_rows.new.tally.done.items in
    let named = subst (λ steps. length (numbers_of rows.by_item more) ≤ asks_naming steps more) c.requires.into.steps (named_of_rows joint rows c.requires.into.rows.watched more) in
    let asked = subst (λ steps. paid rows placed new ≤ paid rows placed old + asks_at steps placed (new_in old new)) c.requires.into.steps (asked_more joint rows c.requires.into.rows.watched placed old new) in
    omega (arith, c.go_on_rows.ensures.steps, named, asked)
