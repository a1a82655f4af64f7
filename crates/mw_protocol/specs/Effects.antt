-- What each packet does.
use Rattle.std.specs.Prelude.{[], List, Option, Some, None, true}
use Rattle.mw_model.specs.Seed.{Seed}
use Rattle.mw_protocol.specs.Bouncing.{bouncing}
use Rattle.mw_protocol.specs.Connecting.{Member, member_by}
use Rattle.mw_protocol.specs.Effect.{Effect, nothing, answering}
use Rattle.mw_protocol.specs.Entering.{joining, updating}
use Rattle.mw_protocol.specs.Locating.{checking, scouting, marking}
use Rattle.mw_protocol.specs.Messages.{data_package, invalid_packet}
use Rattle.mw_protocol.specs.Packages.{package_json}
use Rattle.mw_protocol.specs.Packets.{Packet, connect, connect_update, sync, location_checks, location_scouts, update_hint, status_update, say, get_data_package, bounce, get, change, set_notify, Bad}
use Rattle.mw_protocol.specs.Reading.{reading}
use Rattle.mw_protocol.specs.Sayings.{said_of}
use Rattle.mw_protocol.specs.Speaking.{stating, saying}
use Rattle.mw_protocol.specs.Standing.{Standing}
use Rattle.mw_protocol.specs.Storing.{changing, watching}
use Rattle.mw_protocol.specs.Words.{already_connected}

-- of a session that plays no slot
abbrev pub stranger_effect : Seed → Standing → Packet → Effect
stranger_effect seed now (connect fields) = joining seed now fields (member_by seed fields)
stranger_effect seed now (get_data_package games) =
    answering (data_package (package_json seed games))
stranger_effect seed now (connect_update u) = nothing
stranger_effect seed now sync = nothing
stranger_effect seed now (location_checks numbers) = nothing
stranger_effect seed now (location_scouts numbers as_hint) = nothing
stranger_effect seed now (update_hint u) = nothing
stranger_effect seed now (status_update s) = nothing
stranger_effect seed now (say text) = nothing
stranger_effect seed now (bounce b) = nothing
stranger_effect seed now (get keys further) = nothing
stranger_effect seed now (change set) = nothing
stranger_effect seed now (set_notify keys) = nothing

-- of a member, among the members of all open sessions
abbrev pub member_effect : Seed → Standing → List Member → Member → Packet → Effect
member_effect seed now members m (connect fields) = answering (invalid_packet already_connected)
member_effect seed now members m (connect_update u) = updating seed m u
member_effect seed now members m sync =
    record { records = []; answers = []; whole = true; member = None; announced = [] }
member_effect seed now members m (location_checks numbers) = checking seed now m numbers
member_effect seed now members m (location_scouts numbers as_hint) =
    scouting seed now m numbers as_hint
member_effect seed now members m (update_hint u) = marking seed now m u
member_effect seed now members m (status_update s) = stating seed now m s
member_effect seed now members m (say text) = saying seed now members m (said_of text)
member_effect seed now members m (get_data_package games) =
    answering (data_package (package_json seed games))
member_effect seed now members m (bounce b) = bouncing m b
member_effect seed now members m (get keys further) = reading seed now keys further
member_effect seed now members m (change set) = changing now m set
member_effect seed now members m (set_notify keys) = watching m keys

abbrev pub effect_of : Seed → Standing → List Member → Option Member → Packet → Effect
effect_of seed now members None packet = stranger_effect seed now packet
effect_of seed now members (Some m) packet = member_effect seed now members m packet

-- what is no packet is answered
abbrev pub bad_effect : Bad → Effect
bad_effect bad = answering (invalid_packet bad)
