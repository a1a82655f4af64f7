use Rattle.std.proofs.Common.{◌≡◌, length}
use Rattle.mw_disk.specs.FileRuns.{Reads}
use Rattle.mw_disk.proofs.file_runs.read_some.Given as goal

-- the reads so far changed nothing
abbrev pub invariant-loop : goal.invariant-loop
invariant-loop g l = record {
  honest : g.C.FileCalls.is_honest l.calls ≡ g.C.FileCalls.is_honest l.initial.calls;
  reads : Reads (g.C.FileCalls.log l.initial.calls) (g.C.FileCalls.log l.calls);
  room : length l.into ≡ length l.initial.into;
}
