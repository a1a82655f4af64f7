-- What messages show, beside their definitions: Ann has slot 1, Bob slot 2.
use Rattle.std.specs.Prelude.{◌≡◌, ℕ, pos, negsuc, ◌∷◌, [], List, Bool, true, false, codes, refl}
use Rattle.std.specs.Fmt.{digits}
use Rattle.mw_model.specs.Json.{many, Items, no_items, item, no_members, member}
use Rattle.mw_protocol.specs.Checks.{Check}
use Rattle.mw_protocol.specs.Connecting.{Member}
use Rattle.mw_protocol.specs.Hints.{ToldHint}
use Rattle.mw_protocol.specs.Messages.{ServerPacket, received_items, room_update, retrieved}
use Rattle.mw_protocol.specs.PrintExamples.{sword}
use Rattle.mw_protocol.specs.Prints.{printed, item_send, hint_print, chatted}
use Rattle.mw_protocol.specs.Reading.{hint_json}
use Rattle.mw_protocol.specs.Shown.{shown}

abbrev bob : Member
bob = record { team = 0; slot = 2; mask = 7; tags = []; keys = [] }

-- what a single packet shows to Bob
abbrev to_bob : ServerPacket → List Check
to_bob p = shown bob record { packets = p ∷ []; carries = 0 }

-- Ann's 101
abbrev there : List Check
there = record { team = 0; slot = 1; location = pos 101 } ∷ []

-- a starting item is at no location
pub items : to_bob
    (received_items 0
    (record { item = pos 8; location = negsuc 1; player = 0; flags = 0 } ∷ sword ∷ [])) ≡ there
items = refl

pub locations : to_bob (room_update (pos 201 ∷ []) 3)
    ≡ record { team = 0; slot = 2; location = pos 201 } ∷ []
locations = refl

pub sending : to_bob (printed (item_send sword 2)) ≡ there
sending = refl

pub found_hint : to_bob (printed (hint_print sword 2 true)) ≡ there
found_hint = refl

pub hint_to_come : to_bob (printed (hint_print sword 2 false)) ≡ []
hint_to_come = refl

pub chat : to_bob (printed (chatted 0 1 (codes "Ann") (codes "ItemSend"))) ≡ []
chat = refl

-- Bob's Sword at Ann's 101, as a Get tells it
abbrev told : Bool → ToldHint
told found =
    record {
      receiving_player = 2;
      finding_player = 1;
      location = pos 101;
      item = pos 7;
      found = found;
      item_flags = 1;
      status = 0;
    }

abbrev under : List ℕ → Items → ServerPacket
under key hints =
    retrieved record { keys = member key (many hints) no_members; further = no_members }

pub hints_of_a_player : to_bob
    (under (codes "_read_hints_0_2")
    (item (hint_json (told false)) (item (hint_json (told true)) no_items))) ≡ there
unfolding digits
hints_of_a_player = refl

-- of another team
pub hints_of_a_team : to_bob
    (under (codes "_read_hints_1_2") (item (hint_json (told true)) no_items))
    ≡ record { team = 1; slot = 1; location = pos 101 } ∷ []
unfolding digits
hints_of_a_team = refl

-- another key holds what a client says
pub other_key : to_bob (under (codes "hints_0_2") (item (hint_json (told true)) no_items)) ≡ []
other_key = refl
