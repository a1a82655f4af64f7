use Rattle.std.proofs.Common.{◌+◌, ◌*◌}
use Rattle.mw_rows.proofs.lock_workers.+add_all+fn-add_all-join+arg3.Given as goal

abbrev pub decreases-join+arg3 : goal.decreases-join+arg3
decreases-join+arg3 g l = 2 * l.left + 1

abbrev pub decreases-add_all : goal.decreases-add_all
decreases-add_all g l = 2 * l.workers
