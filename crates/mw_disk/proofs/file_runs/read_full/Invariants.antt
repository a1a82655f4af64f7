use Rattle.std.proofs.Common.{◌≡◌, ◌≤◌, length, take, drop}
use Rattle.std.specs.Prelude.{IsTrue}
use Rattle.mw_disk.specs.FileLogs.{state_of}
use Rattle.mw_disk.specs.FileRuns.{Reads}
use Rattle.mw_disk.proofs.file_runs.read_full.Given as goal

-- what was read so far stands there, if the answers were honest
abbrev pub invariant-loop : goal.invariant-loop
invariant-loop g l = record {
  within : l.done ≤ length l.into;
  honest : g.C.FileCalls.is_honest l.calls ≡ g.C.FileCalls.is_honest l.initial.calls;
  reads : Reads (g.C.FileCalls.log l.initial.calls) (g.C.FileCalls.log l.calls);
  room : length l.into ≡ length l.initial.into;
  given : IsTrue (state_of (g.C.FileCalls.log l.calls)).honest
      → take l.done l.into ≡ take l.done (drop l.at (state_of (g.C.FileCalls.log l.initial.calls)).bytes);
}
