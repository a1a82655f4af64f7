-- Rows of Room A beside the definitions: Ann has slot 1 and starts with item 5, Bob has slot 2.
use Rattle.std.specs.Prelude.{ℕ, ℤ, pos, negsuc, ◌≡◌, ◌∷◌, [], List, Some, true, false, refl, codes}
use Rattle.mw_model.specs.Items.{NetItem}
use Rattle.mw_model.specs.Seed.{Seed, Held, RoomOptions}
use Rattle.mw_protocol.specs.Asked.{received, view, checked}
use Rattle.mw_protocol.specs.Checks.{Check}
use Rattle.mw_protocol.specs.Connecting.{Member, connect_errors}
use Rattle.mw_protocol.specs.Effects.{effect_of}
use Rattle.mw_protocol.specs.Locations.{new_checks, scouted}
use Rattle.mw_protocol.specs.Messages.{ServerPacket, received_items, room_update, invalid_packet}
use Rattle.mw_protocol.specs.Owed.{growth_owed, owed}
use Rattle.mw_protocol.specs.Packets.{Connect, connect, location_checks}
use Rattle.mw_protocol.specs.Prints.{printed, item_send}
use Rattle.mw_protocol.specs.Records.{Record, checks, release, collect}
use Rattle.mw_protocol.specs.Standing.{Standing, start, standing}
use Rattle.mw_protocol.specs.Words.{already_connected}

abbrev pub held : ℕ → ℤ → ℤ → ℕ → ℕ → Held
held slot location item receiver flags =
    record { slot = slot; location = location; item = item; receiver = receiver; flags = flags }

abbrev pub net_item : ℤ → ℤ → ℕ → ℕ → NetItem
net_item item location player flags =
    record { item = item; location = location; player = player; flags = flags }

abbrev pub options : RoomOptions
options =
    record {
      password = [];
      hint_cost = 10;
      location_check_points = 1;
      release = 2;
      collect = 2;
      remaining = 2;
    }

abbrev pub room_a : Seed
room_a = record {
  seed_name = codes "A";
  teams = 1;
  server = options;
  games = [];
  slots = record {
    names = codes "Ann" ∷ [];
    game = codes "G";
    start = record { item = pos 5; flags = 0 } ∷ [];
  }
      ∷ record { names = codes "Bob" ∷ []; game = codes "G"; start = [] } ∷ [];
  groups = [];
  locations = held 1 (pos 101) (pos 7) 2 1 ∷ held 1 (pos 102) (pos 8) 1 0
      ∷ held 2 (pos 201) (pos 9) 1 2 ∷ [];
  spheres = [];
}

abbrev pub ann : ℕ → Member
ann mask = record { team = 0; slot = 1; mask = mask; tags = codes "NoText" ∷ []; keys = [] }

abbrev pub bob : Member
bob = record { team = 0; slot = 2; mask = 7; tags = codes "NoText" ∷ []; keys = [] }

abbrev pub check_of : ℕ → ℤ → Check
check_of slot location = record { team = 0; slot = slot; location = location }

abbrev pub after : List Record → Standing
after journal = standing room_a journal

-- what records owe a member
abbrev pub owed_by : List Record → Member → List ServerPacket
owed_by records m = growth_owed false room_a start (after records) (Some m)

-- numbers that are no location's and locations that stand twice are left out
pub each_once : new_checks room_a [] 0 1 (pos 101 ∷ pos 101 ∷ pos 999 ∷ pos 101 ∷ [])
    ≡ check_of 1 (pos 101) ∷ []
each_once = refl

-- a repeated check records nothing
pub none_twice : new_checks room_a (after (checks 0 1 (pos 101 ∷ []) ∷ [])).checked 0 1
    (pos 101 ∷ []) ≡ []
none_twice = refl

-- the starting items come first, then items in the order of the checks
pub in_order : received room_a 0 1 (checks 0 2 (pos 201 ∷ []) ∷ checks 0 1 (pos 102 ∷ []) ∷ [])
    ≡ net_item (pos 5) (negsuc 1) 0 0 ∷ net_item (pos 9) (pos 201) 2 2
    ∷ net_item (pos 8) (pos 102) 1 0 ∷ []
in_order = refl

-- mask 1 keeps items of other worlds alone
pub of_other_worlds : view room_a 1 0 1 (checks 0 2 (pos 201 ∷ []) ∷ checks 0 1 (pos 102 ∷ []) ∷ [])
    ≡ net_item (pos 9) (pos 201) 2 2 ∷ []
of_other_worlds = refl

-- a release asks for the slot's locations, a collect for those that hold its items, each under its finder
pub released_and_collected : checked room_a
    (checks 0 1 (pos 102 ∷ []) ∷ release 0 1 ∷ collect 0 1 ∷ [])
    ≡ check_of 1 (pos 102) ∷ check_of 1 (pos 101) ∷ check_of 2 (pos 201) ∷ []
released_and_collected = refl

-- Ann's 101 owes Bob his item at index 0
pub item_reaches_the_other : owed_by (checks 0 1 (pos 101 ∷ []) ∷ []) bob
    ≡ received_items 0 (net_item (pos 7) (pos 101) 1 1 ∷ []) ∷ []
item_reaches_the_other = refl

-- Ann's 102 owes her sessions the location and the item, whose index is the view's length before
pub two_sessions_of_a_slot : owed_by (checks 0 1 (pos 102 ∷ []) ∷ []) (ann 7)
    ≡ room_update (pos 102 ∷ []) 1 ∷ received_items 1 (net_item (pos 8) (pos 102) 1 0 ∷ []) ∷ []
two_sessions_of_a_slot = refl

-- without own items in the mask the location alone
pub mask_without_own_items : owed_by (checks 0 1 (pos 102 ∷ []) ∷ []) (ann 1)
    ≡ room_update (pos 102 ∷ []) 1 ∷ []
mask_without_own_items = refl

-- Ann, with these tags, is told of a check of her own
abbrev pub check_owed : List (List ℕ) → List ServerPacket
check_owed tags =
    let m : Member = record { team = 0; slot = 1; mask = 7; tags = tags; keys = [] } in
    let effect = effect_of room_a start [] (Some m) (location_checks (pos 101 ∷ [])) in
    owed room_a start (after effect.records) effect true (Some m)

pub item_is_sent : check_owed []
    ≡ room_update (pos 101 ∷ []) 1 ∷ printed (item_send (net_item (pos 7) (pos 101) 1 1) 2) ∷ []
item_is_sent = refl

-- with the tag NoText nothing is printed
pub no_text : check_owed (codes "NoText" ∷ []) ≡ room_update (pos 101 ∷ []) 1 ∷ []
no_text = refl

-- Ann's scouting gives what stands at her own locations, with the receiver as player
pub scouted_once : scouted room_a 0 1 (pos 201 ∷ pos 101 ∷ pos 101 ∷ [])
    ≡ net_item (pos 7) (pos 101) 2 1 ∷ []
scouted_once = refl

-- a session that plays a slot can't connect again
pub not_twice : (c : Connect)
    → (effect_of room_a start [] (Some (ann 7)) (connect c)).answers
    ≡ invalid_packet already_connected ∷ []
not_twice c = refl

abbrev pub cat : Connect
cat = record {
  name = codes "Cat";
  password = Some (codes "no");
  game = Some (codes "G");
  version = record { major = pos 0; minor = pos 5; build = pos 0 };
  items_handling = Some (pos 2);
  tags = Some (codes "NoText" ∷ []);
}

abbrev pub locked : Seed
locked = record {
  seed_name = room_a.seed_name;
  teams = room_a.teams;
  server = record {
    password = codes "pw";
    hint_cost = 10;
    location_check_points = 1;
    release = 2;
    collect = 2;
    remaining = 2;
  };
  games = room_a.games;
  slots = room_a.slots;
  groups = [];
  locations = room_a.locations;
  spheres = room_a.spheres;
}

-- all refusals that apply, in their order
pub refused_connect : connect_errors locked cat
    ≡ codes "InvalidPassword" ∷ codes "InvalidSlot" ∷ codes "InvalidItemsHandling" ∷ []
refused_connect = refl
