use Rattle.std.proofs.Common.{◌≡◌, ◌++◌, drop, map}
use Rattle.mw_records.specs.Records.{record_view, hint_view}
use Rattle.mw_room.proofs.hinting.hint_records.Given as goal

abbrev pub invariant-loop-entry : goal.invariant-loop-entry
invariant-loop-entry l = map record_view l.records ++ map hint_view (drop l.entry-index l.hints) ≡ map hint_view l.hints
