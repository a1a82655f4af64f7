use Rattle.std.proofs.Common.{◌≡◌, length}
use Rattle.mw_disk.specs.Crash.{Torn}
use Rattle.mw_disk.specs.FileLogs.{state_of}
use Rattle.mw_disk.specs.FileRuns.{Runs}
use Rattle.mw_disk.proofs.file_runs.write_some.Given as goal

-- the writes so far changed nothing that a read gives
abbrev pub invariant-loop : goal.invariant-loop
invariant-loop g l = record {
  honest : g.C.FileCalls.is_honest l.calls ≡ g.C.FileCalls.is_honest l.initial.calls;
  runs : Runs (Torn l.at (length l.bytes)) (g.C.FileCalls.log l.initial.calls) (g.C.FileCalls.log l.calls);
  bytes : (state_of (g.C.FileCalls.log l.calls)).bytes ≡ (state_of (g.C.FileCalls.log l.initial.calls)).bytes;
}
