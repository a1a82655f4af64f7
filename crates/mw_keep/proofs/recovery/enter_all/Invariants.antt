use Rattle.std.proofs.Common.{◌-◌, length}
use Rattle.mw_model.specs.Seed.{Seed}
use Rattle.mw_protocol.specs.Rooms.{empty_room}
use Rattle.mw_room.specs.Represents.{Represents}
use Rattle.mw_keep.specs.Entered.{HasEntered}
use Rattle.mw_keep.proofs.recovery.enter_all.Given as goal

-- the records so far are entered
abbrev pub invariant-loop-at : goal.invariant-loop-at
invariant-loop-at l = (seed : Seed) → Represents l.initial.room (empty_room seed) → HasEntered seed l.text l.at l.room

abbrev pub decreases-loop-at : goal.decreases-loop-at
decreases-loop-at l = length l.text - l.at
