-- What workers hand over may cross threads where the gate, its links, the disk and the ledger may.
use denote.RattleType.{RattleType}
use denote.Param.Send.{IsSend, sendable, recorded_send, struct_send}
use denote.Struct.Declared.{shape}
use Rattle.std.proofs.Crossing.{crosses}
use Rattle.std.specs.declared.sync.ledger.Ledger.{Ghosts as LedgerGhosts}
use Rattle.mw_disk.specs.declared.disk.Disk.{Ghosts as DiskGhosts}
use Rattle.mw_lock.proofs.Crosses.{pass_send}
use Rattle.mw_keep.proofs.Crosses.{kept_send}
use Rattle.mw_link.specs.declared.gate.Gate.{Ghosts as GateGhosts}
use Rattle.mw_link.specs.declared.link.Link.{Ghosts as LinkGhosts}
use Rattle.mw_session.specs.contracts.desk.Desk as desk
use Rattle.mw_session.specs.declared.desk.Limit.{Ghosts as LimitGhosts}
use Rattle.mw_session.specs.contracts.worker.Report as report
use Rattle.std.proofs.sync.ledger.Share.TheSendSync as share_crosses
use Rattle.std.proofs.sync.ledger.Book.TheSendSync as book_crosses

module _ (T D L : RattleType) (d : DiskGhosts D.Denot) (g : LedgerGhosts L.Denot) where
  pub report_send : IsSend T → IsSend D → IsSend L → IsSend (report.the_row T D L d g)
  report_send t s l = let e = kept_send D s in recorded_send (report.the_field T D L d g).row _ _ (report.the_type T D L d g).to_one
      (struct_send (shape (report.the_type T D L d g)) (search (sendable, pass_send) depth 30, (share_crosses.the_send L g, (search (sendable, crosses) depth 30, (search sendable depth 30, (search sendable depth 30, (search sendable depth 30, tt)))))))

module _ (G L T : RattleType) (g : GateGhosts G.Denot T.Denot) (h : LinkGhosts T.Denot) (k : LedgerGhosts L.Denot) (q : LimitGhosts L.Denot) where
  pub desk_send : IsSend G → IsSend L → IsSend (desk.the_row G L T g h q k)
  desk_send s l = recorded_send (desk.the_field G L T g h q k).row _ _ (desk.the_type G L T g h q k).to_one
      (struct_send (shape (desk.the_type G L T g h q k)) (s, (search sendable depth 20, (search sendable depth 20, (search sendable depth 20, (search sendable depth 20, (search sendable depth 20, (book_crosses.the_send L k, tt))))))))
