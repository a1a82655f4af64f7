use Rattle.std.proofs.Common.{◌≡◌, ◌≤◌, length, take}
use Rattle.mw_journal.specs.Image.{magic}
use Rattle.mw_journal.proofs.header.first_wrong.Given as goal

-- the bytes so far are right
abbrev pub invariant-loop-i : goal.invariant-loop-i
invariant-loop-i l = record {
  within : l.i ≤ length l.head;
  same : take l.i l.head ≡ take l.i magic;
}
