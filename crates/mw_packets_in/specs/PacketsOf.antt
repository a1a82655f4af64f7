-- The packets of a client's message, and what stands in the place of one that is none.
use Rattle.std.specs.Prelude.{ℕ, List, [], ◌∷◌, ◌++◌, Option, Some, None, Result, Ok, Err, bytes_eq, codes, nat_le, if◌then◌else◌}
use Rattle.mw_model.specs.Json.{Json, null, flag, whole, not_whole, numeral, words, many, members, Items, no_items, item, Members, depth, find_member}
use Rattle.mw_protocol.specs.Packets.{Packet, sync, BadKind, bad_cmd, bad_arguments, Inbound, good, wrong}
use Rattle.mw_json.specs.Grammar.{Breach, items_length}
use Rattle.mw_json.specs.KeptReading.{kept_reading}
use Rattle.mw_json.specs.Reading.{max_depth}
use Rattle.mw_json.specs.declared.refusal.Step.{Step}
use Rattle.mw_json.specs.declared.refusal.Step.TheVariants.{Name, Index}
use Rattle.mw_packets_in.specs.Rows.{connect_at, connect_update_at, say_at, get_data_package_at, checks_at, scouts_at, update_hint_at, status_update_at, bounce_at, get_at, set_at, set_notify_at}

-- ---- what is no packet

abbrev pub bad : BadKind → Option (List ℕ) → List ℕ → Inbound
bad kind cmd why = wrong record { kind = kind; cmd = cmd; why = why }

-- the name of the outermost step, which is the last
abbrev pub outermost : List ℕ → List Step → List ℕ
outermost name [] = name
outermost name (Name inner ∷ outer) = outermost inner outer
outermost name (Index i ∷ outer) = outermost name outer

-- a row's packet, or the first of its members that is missing or of another kind
abbrev pub told : List ℕ → Result Packet Breach → Inbound
told cmd (Ok packet) = good packet
told cmd (Err breach) =
    bad bad_arguments (Some cmd) (codes "arguments: " ++ outermost [] breach.path)

-- ---- elements of a message

-- messages between clients, and the data storage
abbrev pub storage_named : List ℕ → Members → Inbound
storage_named cmd ms =
    if bytes_eq cmd (codes "Bounce") then told cmd (bounce_at ms)
    else (if bytes_eq cmd (codes "Get") then told cmd (get_at ms)
    else (if bytes_eq cmd (codes "Set") then told cmd (set_at ms)
    else (if bytes_eq cmd (codes "SetNotify") then told cmd (set_notify_at ms)
    else bad bad_cmd (Some cmd) (codes "unknown cmd"))))

-- locations, hints and statuses
abbrev pub location_named : List ℕ → Members → Inbound
location_named cmd ms =
    if bytes_eq cmd (codes "LocationChecks") then told cmd (checks_at ms)
    else (if bytes_eq cmd (codes "LocationScouts") then told cmd (scouts_at ms)
    else (if bytes_eq cmd (codes "UpdateHint") then told cmd (update_hint_at ms)
    else (if bytes_eq cmd (codes "StatusUpdate") then told cmd (status_update_at ms)
    else storage_named cmd ms)))

-- an object's members, by the row of its command
abbrev pub inbound_named : List ℕ → Members → Inbound
inbound_named cmd ms =
    if bytes_eq cmd (codes "Connect") then told cmd (connect_at ms)
    else (if bytes_eq cmd (codes "ConnectUpdate") then told cmd (connect_update_at ms)
    else (if bytes_eq cmd (codes "Sync") then good sync
    else (if bytes_eq cmd (codes "Say") then told cmd (say_at ms)
    else (if bytes_eq cmd (codes "GetDataPackage") then told cmd (get_data_package_at ms)
    else location_named cmd ms))))

abbrev pub no_cmd : Inbound
no_cmd = bad bad_cmd None (codes "no cmd")

-- the command is a text
abbrev pub inbound_by : Option Json → Members → Inbound
inbound_by (Some (words cmd)) ms = inbound_named cmd ms
inbound_by (Some null) ms = no_cmd
inbound_by (Some (flag b)) ms = no_cmd
inbound_by (Some (whole z)) ms = no_cmd
inbound_by (Some not_whole) ms = no_cmd
inbound_by (Some (numeral s)) ms = no_cmd
inbound_by (Some (many js)) ms = no_cmd
inbound_by (Some (members inner)) ms = no_cmd
inbound_by None ms = no_cmd

-- an element is an object with a command
abbrev pub inbound_of : Json → Inbound
inbound_of (members ms) = inbound_by (find_member (codes "cmd") ms) ms
inbound_of null = no_cmd
inbound_of (flag b) = no_cmd
inbound_of (whole z) = no_cmd
inbound_of not_whole = no_cmd
inbound_of (numeral s) = no_cmd
inbound_of (words s) = no_cmd
inbound_of (many js) = no_cmd

-- ---- messages

abbrev pub each_inbound : Items → List Inbound
each_inbound no_items = []
each_inbound (item j js) = inbound_of j ∷ each_inbound js

abbrev pub max_packets : ℕ
max_packets = 1024

-- a message that is one bad packet
abbrev pub all_bad : List ℕ → List Inbound
all_bad why = bad bad_cmd None why ∷ []

abbrev pub no_list : List Inbound
no_list = all_bad (codes "no JSON list")

-- a list of at most 1,024 elements
abbrev pub message_of : Json → List Inbound
message_of (many js) =
    if nat_le (items_length js) max_packets then each_inbound js
    else all_bad (codes "more than 1024 packets")
message_of null = no_list
message_of (flag b) = no_list
message_of (whole z) = no_list
message_of not_whole = no_list
message_of (numeral s) = no_list
message_of (words s) = no_list
message_of (members ms) = no_list

-- of a text's kept reading, where there is one and it isn't too deep
abbrev pub read_message : Option Json → List Inbound
read_message None = no_list
read_message (Some j) = if nat_le (depth j) max_depth then message_of j else no_list

abbrev pub packets_of : List ℕ → List Inbound
packets_of text = read_message (kept_reading text)
