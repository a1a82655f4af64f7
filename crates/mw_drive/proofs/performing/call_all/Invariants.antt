use Rattle.std.proofs.Common.{◌≡◌, ◌≤◌, ℕ, List, map}
use Rattle.std.specs.Option.{is_some}
use Rattle.std.specs.Vec.Iter.{into_iter_items}
use Rattle.mw_model.specs.Seed.{Seed}
use Rattle.mw_protocol.specs.Lives.{Life}
use Rattle.mw_packets_in.specs.View.{inbound_view}
use Rattle.mw_keep.specs.Keeps.{Keeps, kept_disk}
use Rattle.mw_drive.specs.Drive.{call_for}
use Rattle.mw_drive.specs.Left.{IsGoing}
use Rattle.mw_drive.proofs.Calling.{AreLeft}
use Rattle.mw_drive.proofs.performing.call_all.Given as goal

-- the calls that are left come to what all come to
abbrev pub invariant-loop-element : goal.invariant-loop-element
invariant-loop-element g l =
    ((digest : List ℕ) (seed : Seed) (first : Life) → Keeps g.D.Disk.may_leave digest first l.fn.kept → IsGoing seed first l.fn.kept
    → AreLeft g.D.Disk.may_leave g.D.Disk.faults digest seed first l.fn.kept l.kept l.met (map (call_for l.session) (map inbound_view (into_iter_items l.element-iterator))) (map (call_for l.session) (map inbound_view l.fn.message)))
    × (is_some (g.D.Disk.told (kept_disk l.kept)) ≡ is_some (g.D.Disk.told (kept_disk l.fn.kept)))
    × (g.D.Disk.faults (kept_disk l.fn.kept) ≤ g.D.Disk.faults (kept_disk l.kept))
