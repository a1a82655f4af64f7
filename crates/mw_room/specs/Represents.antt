-- The plain rooms that a room represents.
use Rattle.std.specs.Prelude.{◌≡◌}
use Rattle.mw_protocol.specs.Rooms as plain
use Rattle.mw_room.specs.Known.{Known, known, known_effect, known_next}
use Rattle.mw_room.specs.Views.{room_view, planned, plan_records}
use Rattle.mw_room.specs.declared.plan.Plan.{Plan}
use Rattle.mw_room.specs.declared.room.Room.{Room}

-- what the room keeps is what is kept of the plain room
pub record Represents (room : Room) (r : plain.Room) : Type 0 where
  pub known : room_view room ≡ known r
  pub sound : plain.AllSound r.sessions

-- the plan is one for the event in the plain room
pub record Plans (plan : Plan) (r : plain.Room) (event : plain.Event) : Type 0 where
  pub records : plan_records plan ≡ (plain.effect_in r event).records
  pub after : planned plan (known r) ≡ known (plain.next r event)

-- the same of what is kept
pub record IsPlan (plan : Plan) (k : Known) (event : plain.Event) : Type 0 where
  pub records : plan_records plan ≡ (known_effect k event).records
  pub after : planned plan k ≡ known_next k event
