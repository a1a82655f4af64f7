-- A seed file as plain data.
use Rattle.std.specs.Prelude.{ℕ, ℤ, zero, suc, ◌-◌, ◌==◌, ◌&&◌, ◌||◌, nat_le, List, Bool, false, [], ◌∷◌, Option, Some, None, length, slice_get, if◌then◌else◌}
use Rattle.std.specs.Ordering.{int_eq}

-- an item that a slot starts with
pub record StartItem : Type 0 where
  pub item : ℤ
  pub flags : ℕ

-- a player's place: a name for each team, the game, the starting items
pub record Slot : Type 0 where
  pub names : List (List ℕ)
  pub game : List ℕ
  pub start : List StartItem

-- a receiver that stands for several slots of one game: its members, by number
pub record Group : Type 0 where
  pub name : List ℕ
  pub game : List ℕ
  pub members : List ℕ

pub record NamedId : Type 0 where
  pub name : List ℕ
  pub id : ℤ

-- a game's names, in byte order
pub record Game : Type 0 where
  pub name : List ℕ
  pub item_name_to_id : List NamedId
  pub location_name_to_id : List NamedId

-- a location of a slot, with the item that it holds and who receives it, a slot or a group
pub record Held : Type 0 where
  pub slot : ℕ
  pub location : ℤ
  pub item : ℤ
  pub receiver : ℕ
  pub flags : ℕ

-- the settings of a room, each permission by its number in the protocol
pub record RoomOptions : Type 0 where
  pub password : List ℕ
  pub hint_cost : ℕ
  pub location_check_points : ℕ
  pub release : ℕ
  pub collect : ℕ
  pub remaining : ℕ

-- a location in a sphere, by its index in its world's table
pub record Spot : Type 0 where
  pub slot : ℕ
  pub index : ℕ

pub record Seed : Type 0 where
  pub seed_name : List ℕ
  pub teams : ℕ
  pub server : RoomOptions
  pub games : List Game
  pub slots : List Slot
  pub groups : List Group
  pub locations : List Held
  pub spheres : List (List Spot)

-- the slot of a number, which counts from 1
abbrev pub slot_of : Seed → ℕ → Option Slot
slot_of seed zero = None
slot_of seed (suc before) = slice_get seed.slots before

-- the group of a number; groups are numbered on from the slots
abbrev pub group_of : Seed → ℕ → Option Group
group_of seed number =
    if nat_le number (length seed.slots) then None
    else slice_get seed.groups (number - suc (length seed.slots))

abbrev pub has_number : List ℕ → ℕ → Bool
has_number [] number = false
has_number (first ∷ others) number = (first == number) || has_number others number

abbrev pub is_member : Option Group → ℕ → Bool
is_member None slot = false
is_member (Some group) slot = has_number group.members slot

-- whether a slot gets what is for a receiver: a slot's owner is that slot alone, a group's owners are its members
abbrev pub is_owner : Seed → ℕ → ℕ → Bool
is_owner seed receiver slot =
    if nat_le receiver (length seed.slots) then receiver == slot
    else is_member (group_of seed receiver) slot

-- what stands at a location of a slot
abbrev pub held_among : List Held → ℕ → ℤ → Option Held
held_among [] slot location = None
held_among (h ∷ hs) slot location =
    if (h.slot == slot) && int_eq h.location location then Some h else held_among hs slot location

abbrev pub held_at : Seed → ℕ → ℤ → Option Held
held_at seed slot location = held_among seed.locations slot location
