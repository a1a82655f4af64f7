use Rattle.std.proofs.Common.{◌-◌, ◌≡◌, ◌≤◌, ◌^◌, ℕ, List, Some}
use Rattle.mw_journal.specs.Opening.{Reaches}
use Rattle.mw_journal.specs.Reads.{OnlyReads}
use Rattle.mw_journal.proofs.scan.read_batches.Given as goal

-- the text is that of the batches before the place
abbrev pub invariant-loop-gate : goal.invariant-loop-gate
invariant-loop-gate g l = record {
  near : l.place ≤ 2 ^ 33;
  reads : OnlyReads g.D.Disk.told g.D.Disk.may_leave g.D.Disk.moment g.D.Disk.left_since g.D.Disk.faults l.initial.disk l.disk;
  so_far : (f : List ℕ) → g.D.Disk.told l.initial.disk ≡ Some f → Reaches f l._digest l.text.items l.place;
}

abbrev pub decreases-loop-gate : goal.decreases-loop-gate
decreases-loop-gate g l = 2 ^ 34 - l.place
