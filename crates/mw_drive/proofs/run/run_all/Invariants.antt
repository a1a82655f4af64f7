use Rattle.std.proofs.Common.{◌≡◌, ◌≤◌, map}
use Rattle.std.specs.Option.{is_some}
use Rattle.std.specs.Vec.Iter.{into_iter_items}
use Rattle.mw_model.specs.Seed.{Seed}
use Rattle.mw_protocol.specs.Lives.{Life}
use Rattle.mw_keep.specs.Keeps.{kept_disk}
use Rattle.mw_script.specs.Commands.{command_view}
use Rattle.mw_drive.specs.Runs.{HasLife, IsKeptIn, IsOfRun}
use Rattle.mw_drive.specs.declared.error.DriveError.{DriveError}
use Rattle.mw_drive.proofs.Looping.{IsAt}
use Rattle.mw_drive.proofs.run.run_all.Given as goal

-- the room is kept in the life after some commands, of which what was put and what is left to be put
-- make up all
abbrev pub invariant-loop-command : goal.invariant-loop-command
invariant-loop-command g l =
    ((seed : Seed) (first : Life) → IsKeptIn g.D.Disk.may_leave g.D.Disk.told l.file (map command_view l.fn.commands) seed first l.fn.kept
    → IsAt g.D.Disk.may_leave g.D.Disk.told l.file seed first (g.O.Sink.held l.fn.out) (g.O.Sink.held l.out) (map command_view (into_iter_items l.command-iterator)) (map command_view l.fn.commands) l.kept)
    × ((error : DriveError) → IsOfRun (map command_view (into_iter_items l.command-iterator)) error → IsOfRun (map command_view l.fn.commands) error)
    × (HasLife g.D.Disk.may_leave l.file l.fn.kept → HasLife g.D.Disk.may_leave l.file l.kept)
    × (is_some (g.D.Disk.told (kept_disk l.kept)) ≡ is_some (g.D.Disk.told (kept_disk l.fn.kept)))
    × (g.D.Disk.faults (kept_disk l.fn.kept) ≤ g.D.Disk.faults (kept_disk l.kept))
    × (g.O.Sink.faults l.fn.out ≤ g.O.Sink.faults l.out)
