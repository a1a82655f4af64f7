use denote.Param.Send.{IsSend, sendable}
use Rattle.mw_lock.proofs.Crosses.{pass_send, lock_sync}
use Rattle.mw_rows.specs.contracts.lock_sums.Sum as sum
use Rattle.mw_rows.proofs.lock_race.two_threads_see_each_other_and_add_to_one_sum.Goals as goal

pub join-near-requires-send-F : goal.join-near-requires-send-F
join-near-requires-send-F c = let v : IsSend sum.the_row = search sendable depth 20 in search (sendable, pass_send, lock_sync) depth 40

pub join-near-requires-send-A : goal.join-near-requires-send-A
join-near-requires-send-A c = let v : IsSend sum.the_row = search sendable depth 20 in search (sendable, pass_send) depth 40
