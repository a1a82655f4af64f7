use Rattle.std.proofs.Common.{◌-◌, length, map}
use Rattle.mw_records.specs.Records.{record_view}
use Rattle.mw_checkpoint.proofs.Spelt.{HasRead}
use Rattle.mw_checkpoint.proofs.reading.records_of.Given as goal

-- the records so far
abbrev pub invariant-loop-at : goal.invariant-loop-at
invariant-loop-at l = HasRead l.text l.at (map record_view l.records)

abbrev pub decreases-loop-at : goal.decreases-loop-at
decreases-loop-at l = length l.text - l.at
