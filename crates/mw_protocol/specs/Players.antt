-- Who plays what, as RoomInfo and Connected tell it.
use Rattle.std.specs.Prelude.{ℕ, zero, suc, ◌+◌, ◌==◌, ◌||◌, ◌++◌, ◌∷◌, [], List, Bool, false, not, length, filter, slice_get, unwrap_or, bytes_eq, if◌then◌else◌}
use Rattle.mw_model.specs.Games.{checksum_of}
use Rattle.mw_model.specs.Seed.{Seed, Slot, Group, Game}
use Rattle.mw_protocol.specs.Asked.{locations_of}
use Rattle.mw_protocol.specs.Connecting.{Member}
use Rattle.mw_protocol.specs.Messages.{GameSum, RoomInfo, NetworkPlayer, NetworkSlot, Connected}
use Rattle.mw_protocol.specs.Standing.{Standing, is_checked, points}

abbrev pub plays : List Slot → List ℕ → Bool
plays [] game = false
plays (s ∷ ss) game = bytes_eq s.game game || plays ss game

-- the games that a slot plays, each with its checksum
abbrev pub games_played : List Slot → List Game → List GameSum
games_played slots [] = []
games_played slots (g ∷ gs) =
    if plays slots g.name
    then record { game = g.name; checksum = checksum_of g } ∷ games_played slots gs
    else games_played slots gs

-- what a session is told when it is opened at a time
abbrev pub room_info_of : Seed → ℕ → RoomInfo
room_info_of seed time = record {
  password = not (length seed.server.password == 0);
  release = seed.server.release;
  collect = seed.server.collect;
  remaining = seed.server.remaining;
  hint_cost = seed.server.hint_cost;
  location_check_points = seed.server.location_check_points;
  games = games_played seed.slots seed.games;
  seed_name = seed.seed_name;
  time = time;
}

-- the slot's name in a team
abbrev pub name_in : ℕ → Slot → List ℕ
name_in team slot = unwrap_or (slice_get slot.names team) []

-- the players of a team, from a slot on
abbrev pub team_players : ℕ → ℕ → List Slot → List NetworkPlayer
team_players team number [] = []
team_players team number (s ∷ ss) =
    record { team = team; slot = number; name = name_in team s } ∷ team_players team (number + 1) ss

-- the players of this many teams, by team, then slot
abbrev pub players_of : ℕ → List Slot → List NetworkPlayer
players_of zero slots = []
players_of (suc team) slots = players_of team slots ++ team_players team 1 slots

-- the slots of a team, from a number on
abbrev pub slot_infos : ℕ → ℕ → List Slot → List NetworkSlot
slot_infos team number [] = []
slot_infos team number (s ∷ ss) =
    record { slot = number; name = name_in team s; game = s.game; members = [] }
    ∷ slot_infos team (number + 1) ss

-- the groups, from a number on
abbrev pub group_infos : ℕ → List Group → List NetworkSlot
group_infos number [] = []
group_infos number (g ∷ gs) =
    record { slot = number; name = g.name; game = g.game; members = g.members }
    ∷ group_infos (number + 1) gs

-- what a session is told when it has become a member
abbrev pub connected_of : Seed → Standing → Member → Connected
connected_of seed now m = record {
  team = m.team;
  slot = m.slot;
  players = players_of seed.teams seed.slots;
  missing_locations = filter (λ l. not (is_checked now m.team m.slot l)) (locations_of seed m.slot);
  checked_locations = filter (λ l. is_checked now m.team m.slot l) (locations_of seed m.slot);
  slot_info = slot_infos m.team 1 seed.slots ++ group_infos (length seed.slots + 1) seed.groups;
  hint_points = points seed now m.team m.slot;
}
