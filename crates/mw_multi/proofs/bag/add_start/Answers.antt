use Rattle.mw_multi.proofs.Counts.{count_bound}
use Rattle.mw_multi.proofs.bag.add_start.Goals as goal

pub returns-clause-bound : goal.returns-clause-bound
returns-clause-bound c = λ n. rw (← c.slot.view_is) (count_bound c.slot.inside.first_item 256 c.slot.inside.start n c.slot.invariant.few)
