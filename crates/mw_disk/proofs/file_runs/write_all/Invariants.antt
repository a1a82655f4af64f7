use Rattle.std.proofs.Common.{◌≡◌, ◌≤◌, length, take}
use Rattle.mw_disk.specs.Crash.{Torn}
use Rattle.mw_disk.specs.FileLogs.{state_of, laid}
use Rattle.mw_disk.specs.FileRuns.{Runs}
use Rattle.mw_disk.proofs.file_runs.write_all.Given as goal

-- the bytes before the place were written
abbrev pub invariant-loop : goal.invariant-loop
invariant-loop g l = record {
  within : l.done ≤ length l.bytes;
  honest : g.C.FileCalls.is_honest l.calls ≡ g.C.FileCalls.is_honest l.initial.calls;
  runs : Runs (Torn l.at (length l.bytes)) (g.C.FileCalls.log l.initial.calls) (g.C.FileCalls.log l.calls);
  bytes : (state_of (g.C.FileCalls.log l.calls)).bytes
      ≡ laid l.at (take l.done l.bytes) (state_of (g.C.FileCalls.log l.initial.calls)).bytes;
}
