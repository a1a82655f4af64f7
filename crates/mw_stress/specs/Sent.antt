-- What the sessions of `stress` send.
use Rattle.std.specs.Prelude.{ℕ, pos, [], ◌∷◌, Some, codes}
use Rattle.mw_protocol.specs.Packets.{Packet, connect, location_checks, Version}
use Rattle.mw_stress.specs.Stress.{player_name}

abbrev pub version : Version
version = record { major = pos 0; minor = pos 5; build = pos 0 }

-- the player of a slot wants to hear of all items, and of no prints
abbrev pub connecting : ℕ → Packet
connecting slot = connect record {
  name = player_name slot;
  password = Some [];
  game = Some (codes "Stress");
  version = version;
  items_handling = Some (pos 7);
  tags = Some (codes "NoText" ∷ []);
}

-- one location is checked
abbrev pub checking : ℕ → Packet
checking location = location_checks (pos location ∷ [])
