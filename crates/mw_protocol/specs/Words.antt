-- The texts of InvalidPacket that a room gives.
use Rattle.std.specs.Prelude.{Some, codes}
use Rattle.mw_protocol.specs.Packets.{Bad, bad_arguments}

-- a Connect of a session that plays a slot already
abbrev pub already_connected : Bad
already_connected =
    record { kind = bad_arguments; cmd = Some (codes "Connect"); why = codes "already connected" }
