-- Whom a Bounce reaches.
use Rattle.std.specs.Prelude.{◌≡◌, ℕ, ◌==◌, ◌&&◌, Bool, false, Option, Some, None}
use Rattle.mw_model.specs.Seed.{Seed}
use Rattle.mw_protocol.specs.Bouncing.{named_by}
use Rattle.mw_protocol.specs.Connecting.{Member}
use Rattle.mw_protocol.specs.Heard.{is_named}
use Rattle.mw_protocol.specs.Messages.{bounced}
use Rattle.mw_protocol.specs.Packets.{Bounce, bounce}
use Rattle.mw_protocol.specs.Rooms.{Room, sent, member_in, next}
use Rattle.mw_laws.specs.Told.{telling_where}

-- it plays a slot of the sender's team, and the Bounce names its game, its slot or one of its tags
abbrev pub is_reached : Seed → Member → Bounce → Option Member → Bool
is_reached seed sender b None = false
is_reached seed sender b (Some m) = (m.team == sender.team) && is_named seed (named_by b) m

-- a Bounce of a session that plays a slot leaves the room as it is, but that all whom it reaches are told its members, the sender too if it is one of them
abbrev pub BouncesReach : Type 0
BouncesReach =
    (room : Room) (number : ℕ) (sender : Member) (b : Bounce)
    → member_in room.sessions number ≡ Some sender
    → next room (sent number (bounce b))
    ≡ telling_where (λ s. is_reached room.seed sender b s.member) (bounced b) room
