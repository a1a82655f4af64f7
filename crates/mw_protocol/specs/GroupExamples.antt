-- Rows of Room A with a group of Ann and Bob beside the definitions: Duo has number 3, and gets what stands at Ann's 102.
use Rattle.std.specs.Prelude.{pos, ◌≡◌, ◌∷◌, [], List, Some, false, refl, codes}
use Rattle.mw_model.specs.Seed.{Seed}
use Rattle.mw_protocol.specs.Asked.{checked}
use Rattle.mw_protocol.specs.Connecting.{Member}
use Rattle.mw_protocol.specs.Examples.{ann, bob, check_of, held, net_item, room_a}
use Rattle.mw_protocol.specs.Messages.{ServerPacket, received_items, room_update}
use Rattle.mw_protocol.specs.Owed.{growth_owed}
use Rattle.mw_protocol.specs.Players.{connected_of}
use Rattle.mw_protocol.specs.Records.{checks, collect}
use Rattle.mw_protocol.specs.Standing.{start, standing}

abbrev pub room_of_duo : Seed
room_of_duo = record {
  seed_name = room_a.seed_name;
  teams = room_a.teams;
  server = room_a.server;
  games = room_a.games;
  slots = room_a.slots;
  groups = record { name = codes "Duo"; game = codes "G"; members = 1 ∷ 2 ∷ [] } ∷ [];
  locations = held 1 (pos 101) (pos 7) 2 1 ∷ held 1 (pos 102) (pos 8) 3 0
      ∷ held 2 (pos 201) (pos 9) 1 2 ∷ [];
  spheres = room_a.spheres;
}

abbrev pub owed_of_duo : Member → List ServerPacket
owed_of_duo m =
    growth_owed false room_of_duo start (standing room_of_duo (checks 0 1 (pos 102 ∷ []) ∷ []))
    (Some m)

-- a check of the shared item gives it to each member
pub shared_with_the_finder : owed_of_duo (ann 7)
    ≡ room_update (pos 102 ∷ []) 1 ∷ received_items 1 (net_item (pos 8) (pos 102) 1 0 ∷ []) ∷ []
shared_with_the_finder = refl

pub shared_with_the_other : owed_of_duo bob
    ≡ received_items 0 (net_item (pos 8) (pos 102) 1 0 ∷ []) ∷ []
shared_with_the_other = refl

-- to its finder it is an item of the own world
pub shared_without_own_items : owed_of_duo (ann 1) ≡ room_update (pos 102 ∷ []) 1 ∷ []
shared_without_own_items = refl

-- Bob's collect asks for his item and for the shared one, in Ann's name
pub shared_is_collected : checked room_of_duo (collect 0 2 ∷ [])
    ≡ check_of 1 (pos 101) ∷ check_of 1 (pos 102) ∷ []
shared_is_collected = refl

-- a member is told of the group after the slots
pub group_is_told : (connected_of room_of_duo start bob).slot_info
    ≡ record { slot = 1; name = codes "Ann"; game = codes "G"; members = [] }
    ∷ record { slot = 2; name = codes "Bob"; game = codes "G"; members = [] }
    ∷ record { slot = 3; name = codes "Duo"; game = codes "G"; members = 1 ∷ 2 ∷ [] } ∷ []
group_is_told = refl
