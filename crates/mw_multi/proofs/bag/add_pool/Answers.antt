use Rattle.std.specs.Prelude.{unwrap_or}
use Rattle.mw_multi.proofs.Counts.{count_bound}
use Rattle.mw_multi.proofs.bag.add_pool.Goals as goal

pub returns-clause-bound : goal.returns-clause-bound
returns-clause-bound c = λ n. rw (← c.slot.view_is) (count_bound c.slot.inside.first_item 10000 (unwrap_or c.slot.inside.own_pool c.slot.inside.world.now.pool) n c.slot.invariant.pool.together)
