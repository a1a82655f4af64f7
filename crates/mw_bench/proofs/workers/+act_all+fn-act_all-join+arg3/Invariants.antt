use Rattle.std.proofs.Common.{◌+◌, ◌*◌, length}
use Rattle.mw_bench.proofs.workers.+act_all+fn-act_all-join+arg3.Given as goal

abbrev pub decreases-join+arg3 : goal.decreases-join+arg3
decreases-join+arg3 g l = 2 * length l.passes.items + 1

abbrev pub decreases-act_all : goal.decreases-act_all
decreases-act_all g l = 2 * length l.passes.items
