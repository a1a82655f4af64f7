use Rattle.std.proofs.Common.{ℕ, List, map}
use Rattle.std.specs.Vec.Iter.{into_iter_items}
use Rattle.mw_model.specs.Seed.{Seed}
use Rattle.mw_protocol.specs.Lives.{Life}
use Rattle.mw_keep.specs.Keeps.{Keeps}
use Rattle.mw_keep.specs.Views.{call_view}
use Rattle.mw_drive.specs.Left.{IsGoing}
use Rattle.mw_offline.proofs.Sessions.{IsOnWay}
use Rattle.mw_offline.proofs.stress_room.act_all.Given as goal

-- the calls that are left come to what all come to
abbrev pub invariant-loop-call : goal.invariant-loop-call
invariant-loop-call g l =
    (digest : List ℕ) (seed : Seed) (first : Life) → Keeps g.D.Disk.may_leave digest first l.fn.kept → IsGoing seed first l.fn.kept
    → IsOnWay g.D.Disk.may_leave g.D.Disk.faults digest seed first l.fn.kept l.kept l.taken (map call_view (into_iter_items l.call-iterator)) (map call_view l.fn.calls)
