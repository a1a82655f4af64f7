use Rattle.std.proofs.Common.{rules, arith, ◌≡◌}
use denote.Param.{param}
use denote.Param.Send.{IsSend, IsSync, sendable}
use Rattle.mw_lock.proofs.Crosses.{pass_send, lock_sync}
use Rattle.mw_rows.specs.contracts.lock_sums.Sum as sum
use Rattle.mw_rows.proofs.lock_workers.+add_all+fn-add_all-join+arg3.Goals as goal

pub join-pass-requires-send-F : goal.join-pass-requires-send-F
join-pass-requires-send-F g t c κs within = let r : IsSync (param 0 g.row.R) = search rules in
    let v : IsSend sum.the_row = search sendable depth 20 in search (sendable, pass_send, lock_sync) depth 40

pub join-pass-requires-send-A : goal.join-pass-requires-send-A
join-pass-requires-send-A g t c κs within = let v : IsSend sum.the_row = search sendable depth 20 in search (sendable, pass_send) depth 40
