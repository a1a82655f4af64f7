use Rattle.std.proofs.Common.{◌-◌, ◌≡◌, ◌≤◌, ◌++◌, ℕ, List, length, take, drop, Some}
use Rattle.mw_journal.specs.Reads.{OnlyReads}
use Rattle.mw_journal.proofs.scan.read_body.Given as goal

-- so much of the body was read
abbrev pub invariant-loop-done : goal.invariant-loop-done
invariant-loop-done g l = record {
  within : l.done ≤ l.size;
  reads : OnlyReads g.D.Disk.told g.D.Disk.may_leave g.D.Disk.moment g.D.Disk.left_since g.D.Disk.faults l.initial.disk l.disk;
  bytes : (f : List ℕ) → g.D.Disk.told l.initial.disk ≡ Some f
      → (length (take l.done (drop l.at f)) ≡ l.done) × (l.text.items ≡ l.initial.text.items ++ take l.done (drop l.at f));
}

abbrev pub decreases-loop-done : goal.decreases-loop-done
decreases-loop-done g l = l.size - l.done
