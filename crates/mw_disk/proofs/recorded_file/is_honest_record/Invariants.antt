use Rattle.std.proofs.Common.{◌≡◌, take}
use Rattle.mw_disk.specs.FileLogs.{judged_log, state_of}
use Rattle.mw_disk.proofs.recorded_file.is_honest_record.Given as goal

-- the calls so far were judged
abbrev pub invariant-loop-event : goal.invariant-loop-event
invariant-loop-event l = record {
  bytes : l.bytes.items ≡ (state_of (judged_log l.found l.fresh (take l.event-index l.events))).bytes;
  honest : l.honest ≡ (state_of (judged_log l.found l.fresh (take l.event-index l.events))).honest;
}
