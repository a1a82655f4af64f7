use Rattle.std.proofs.Common.{◌≡◌, take, drop, map, true}
use Rattle.mw_protocol.specs.Named.{are_named}
use Rattle.mw_protocol.specs.Rooms.{replayed}
use Rattle.mw_records.specs.Records.{record_view}
use Rattle.mw_room.specs.Represents.{Represents}
use Rattle.mw_room.proofs.room.Room.replay.Given as goal

-- the room is that of the records that were entered, and the others are named too
abbrev pub invariant-loop-entry : goal.invariant-loop-entry
invariant-loop-entry l = record {
  stands : Represents l.room (replayed l.fn.tables (map record_view (take l.entry-index l.records)));
  named : are_named l.fn.tables (map record_view (drop l.entry-index l.records)) ≡ true;
}
