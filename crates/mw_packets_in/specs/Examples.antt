-- Messages of clients, and what stands in their place.
use Rattle.std.specs.Prelude.{◌≡◌, ℕ, pos, List, [], ◌∷◌, Some, None, codes, refl}
use Rattle.mw_model.specs.Json.{Json, whole, numeral, words, many, members, Items, no_items, item, Members, no_members, member}
use Rattle.mw_protocol.specs.Packets.{Inbound, sync, bounce, good, bad_cmd, bad_arguments}
use Rattle.mw_json.specs.Grammar.{field_at}
use Rattle.mw_json.specs.Parts.{field_if_at}
use Rattle.mw_json.specs.Readers.{field_or_at}
use Rattle.mw_packets_in.specs.Fields.{client_status_at}
use Rattle.mw_packets_in.specs.PacketsOf.{bad, message_of, no_cmd, no_list}
use Rattle.mw_packets_in.specs.Rows.{bounce_at, status_update_at, set_at, operations_at, operation_at}

-- an object of a command, with further members
abbrev object : List ℕ → Members → Json
object cmd ms = members (member (codes "cmd") (words cmd) ms)

-- a message of these elements
abbrev message : Items → List Inbound
message js = message_of (many js)

-- an object is no list
pub no_list_of_packets : message_of (object (codes "Sync") no_members) ≡ no_list
no_list_of_packets = refl

pub unknown_command : message (item (object (codes "Fly") no_members) no_items)
    ≡ bad bad_cmd (Some (codes "Fly")) (codes "unknown cmd") ∷ []
unknown_command = refl

-- what comes after it is a packet all the same
pub after_no_command : message
    (item (whole (pos 7)) (item (object (codes "Sync") no_members) no_items))
    ≡ no_cmd ∷ good sync ∷ []
after_no_command = refl

-- a fraction in a further member passes as it stands
pub bounced_fraction : message
    (item (object (codes "Bounce") (member (codes "data") (numeral (codes "0.50")) no_members))
    no_items)
    ≡ good (bounce record {
      games = None;
      tags = None;
      slots = None;
      further = member (codes "data") (numeral (codes "0.50")) no_members;
    }) ∷ []
unfolding bounce_at field_if_at
bounced_fraction = refl

-- and is no whole number
pub status_with_a_fraction : message
    (item (object (codes "StatusUpdate") (member (codes "status") (numeral (codes "5.0")) no_members))
    no_items)
    ≡ bad bad_arguments (Some (codes "StatusUpdate")) (codes "arguments: status") ∷ []
unfolding status_update_at client_status_at field_at
status_with_a_fraction = refl

-- an operation without a value
pub operation_without_value : message
    (item (object (codes "Set")
    (member (codes "key") (words (codes "k"))
    (member (codes "operations")
    (many (item (members (member (codes "operation") (words (codes "add")) no_members)) no_items))
    no_members))) no_items)
    ≡ bad bad_arguments (Some (codes "Set")) (codes "arguments: operations") ∷ []
unfolding set_at operations_at operation_at field_at field_or_at
operation_without_value = refl
