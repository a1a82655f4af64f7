use Rattle.std.proofs.Common.{leb, ap, ◌∙◌}
use Rattle.mw_rules.specs.Holds.{bag_of, total}
use Rattle.mw_rules.proofs.Views.{view_of_count}
use Rattle.mw_rules.proofs.judge.+eval.Goals as goal

pub eval-returns-in-Count : goal.eval-returns-in-Count
eval-returns-in-Count t c =
    let items = c.in-Count.items in
    let at_least = c.in-Count.at_least in
    let bag = bag_of c.args.counts.now in
    rw (c.in-Count.is, view_of_count items at_least) (c.has_count.ensures ∙ ap (λ is. leb at_least (total bag is)) c.as_slice-in-Count.ensures)
