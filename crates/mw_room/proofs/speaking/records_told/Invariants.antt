use Rattle.std.proofs.Common.{◌≡◌, ◌++◌, drop, map}
use Rattle.mw_protocol.specs.Speaking.{records_told}
use Rattle.mw_records.specs.Records.{record_view}
use Rattle.mw_effects.specs.Views.{announced_view}
use Rattle.mw_room.proofs.speaking.records_told.Given as goal

abbrev pub invariant-loop-entry : goal.invariant-loop-entry
invariant-loop-entry l = map announced_view l.prints ++ records_told l.tables (map record_view (drop l.entry-index l.records)) ≡ records_told l.tables (map record_view l.records)
