use Rattle.std.proofs.Common.{◌≡◌, ◌≤◌, ℕ, List, None, length}
use Rattle.std.specs.List.{AllByRecursion}
use Rattle.mw_disk.specs.Crash.{LeavesOnly}
use Rattle.mw_journal.specs.Journal.{disk_of, state_of}
use Rattle.mw_journal.specs.declared.state.JournalState.TheVariants.{Whole}
use Rattle.mw_play.specs.Saves.{KeepsList}
use Rattle.mw_play.specs.Turns.{Follows, HoldsFront, NotEnd, texts_in}
use Rattle.mw_play.proofs.turns.play_over.Given as goal

-- the turns so far
abbrev pub invariant-loop : goal.invariant-loop
invariant-loop g l = record {
  follows : Follows g.L.Link.heard g.L.Link.sent l.fn.player l.fn.play.list l.line l.play;
  unended : AllByRecursion NotEnd (g.L.Link.heard l.line);
  count : length (g.L.Link.heard l.line) ≡ l.counter;
  going : l.play.refusal ≡ None;
  whole : state_of l.journal ≡ Whole;
  keeps : (digest : List ℕ) → KeepsList g.D.Disk.may_leave digest l.fn.journal l.fn.play.list → KeepsList g.D.Disk.may_leave digest l.journal l.play.list;
  moments : (digest : List ℕ) → KeepsList g.D.Disk.may_leave digest l.fn.journal l.fn.play.list
      → LeavesOnly g.D.Disk.moment g.D.Disk.left_since (disk_of l.fn.journal) (disk_of l.journal) (HoldsFront digest l.fn.play.list (texts_in (g.L.Link.heard l.line)));
  later : g.L.Link.faults l.fn.line ≤ g.L.Link.faults l.line;
  later_disk : g.D.Disk.faults (disk_of l.fn.journal) ≤ g.D.Disk.faults (disk_of l.journal);
}
