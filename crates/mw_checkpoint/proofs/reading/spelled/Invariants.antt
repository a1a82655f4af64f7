use Rattle.std.proofs.Common.{◌≡◌, map, take}
use Rattle.mw_protocol.specs.Spelled.{records_bytes}
use Rattle.mw_records.specs.Records.{record_view}
use Rattle.mw_checkpoint.proofs.reading.spelled.Given as goal

-- those of the records so far
abbrev pub invariant-loop-record : goal.invariant-loop-record
invariant-loop-record l = l.bytes ≡ records_bytes (map record_view (take l.record-index l.records))
