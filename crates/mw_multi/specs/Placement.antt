-- Placements: which item, of which receiver's world, stands at which location. A receiver is a slot or a link.
use Rattle.std.specs.Prelude.{◌≡◌, ℕ, suc, ◌+◌, ◌-◌, ◌==◌, ◌&&◌, List, [], ◌∷◌, Bool, true, Option, Some, None, All, filter, find, flat_map, is_some, length, map, nat_le, nat_lt, option_map, option_and_then, slice_get, slice_index_or, if◌then◌else◌}
use Rattle.std.specs.List.Sorted.{IsStrictlyIncreasing}
use Rattle.mw_multi.specs.World.{World, Item, Location}
use Rattle.mw_multi.specs.RulesKept.{is_progression_item}
use Rattle.mw_multi.specs.Joint.{Slot, Link, Joint, first_slot, slot_places, place_total}
pub use Rattle.mw_multi.specs.Joint.{slot_at}

-- an item of the receiver's world at a location; the receiver's number counts from 1
pub record Put : Type 0 where
  pub place : ℕ
  pub receiver : ℕ
  pub item : ℕ

-- ---- receivers

abbrev pub members_of : Option Link → List ℕ
members_of None = []
members_of (Some l) = l.members

-- the numbers of a receiver's owners: a slot is its own, and a link's are its members; links are numbered after the slots
abbrev pub owners : Joint → ℕ → List ℕ
owners joint receiver =
    if nat_le receiver (length joint.slots) then receiver ∷ []
    else members_of (slice_get joint.links (receiver - suc (length joint.slots)))

-- an item of the slot
abbrev pub item_in : ℕ → Slot → Option Item
item_in item s = slice_get s.world.items item

-- the item of a receiver's world, which is the one of its owners
abbrev pub item_at : Joint → ℕ → ℕ → Option Item
item_at joint receiver item =
    option_and_then (item_in item) (first_slot joint.slots (owners joint receiver))

-- ---- puts

-- a location of the slot of this number
pub record Site : Type 0 where
  pub slot : ℕ
  pub location : Location

abbrev pub site_of : ℕ → Location → Site
site_of number l = record { slot = number; location = l }

-- the location at a place that counts from the slot's first; none for a region
abbrev pub site_in : ℕ → World → ℕ → Option Site
site_in number w place =
    if nat_lt place (length w.regions) then None
    else option_map (site_of number) (slice_get w.locations (place - length w.regions))

-- the location at a place that counts from the first of these slots, which has this number; none for a region and past the end
abbrev pub site_from : ℕ → List Slot → ℕ → Option Site
site_from number [] place = None
site_from number (s ∷ ss) place =
    if nat_lt place (slot_places s) then site_in number s.world place
    else site_from (number + 1) ss (place - slot_places s)

-- the location at a place
abbrev pub site_at : List Slot → ℕ → Option Site
site_at slots place = site_from 1 slots place

-- an event location has its own event
abbrev pub fits_event : Put → Site → Option ℕ → Bool
fits_event put site None = true
fits_event put site (Some event) = (put.receiver == site.slot) && (put.item == event)

abbrev pub fits_site : Put → Option Site → Bool
fits_site put None = true
fits_site put (Some site) = fits_event put site site.location.event

-- the place is a location of the joint, the item is one of the receiver's world, and an event location has its own event
pub record PutKept (joint : Joint) (put : Put) : Type 0 where
  pub place : is_some (site_at joint.slots put.place) ≡ true
  pub item : is_some (item_at joint put.receiver put.item) ≡ true
  pub event : fits_site put (site_at joint.slots put.place) ≡ true

abbrev pub put_place : Put → ℕ
put_place put = put.place

-- the places ascend
abbrev pub Ascend : List Put → Type 0
Ascend puts = IsStrictlyIncreasing (map put_place puts)

-- a placement of the joint
pub record IsPlacement (joint : Joint) (puts : List Put) : Type 0 where
  pub ascend : Ascend puts
  pub each : All (PutKept joint) puts

-- ---- what stands where

abbrev pub stands_at : ℕ → Put → Bool
stands_at place put = put.place == place

-- what stands at a place
abbrev pub what_stands : List Put → ℕ → Option Put
what_stands puts place = find (stands_at place) puts

-- for each place, what stands there
abbrev pub AreStanding : List Put → List (Option Put) → Type 0
AreStanding puts stands = (place : ℕ) → slice_index_or stands place None ≡ what_stands puts place

-- ---- as a table of numbers

-- the number over all slots of an item of a slot; none where it is no progression item
abbrev pub numbers_in : ℕ → Slot → List ℕ
numbers_in item s = if is_progression_item (item_in item s) then (s.first_item + item) ∷ [] else []

abbrev pub numbers_of : Option Slot → ℕ → List ℕ
numbers_of None item = []
numbers_of (Some s) item = numbers_in item s

abbrev pub owner_numbers : List Slot → ℕ → ℕ → List ℕ
owner_numbers slots item owner = numbers_of (slot_at slots owner) item

-- the numbers over all slots of a receiver's item, one for each of the receiver's owners
abbrev pub receiver_numbers : Joint → ℕ → ℕ → List ℕ
receiver_numbers joint receiver item =
    flat_map (owner_numbers joint.slots item) (owners joint receiver)

abbrev pub put_numbers : Joint → Put → List ℕ
put_numbers joint put = receiver_numbers joint put.receiver put.item

-- the numbers of what stands at a place
abbrev pub standing : Joint → List Put → ℕ → List ℕ
standing joint puts place = flat_map (put_numbers joint) (filter (stands_at place) puts)

-- the numbers in the table at a place, none past the end
abbrev pub numbers_at : List (List ℕ) → ℕ → List ℕ
numbers_at table place = slice_index_or table place []

-- a table with an entry for each place, and at each place the numbers of what stands there
pub record IsPlaced (joint : Joint) (puts : List Put) (table : List (List ℕ)) : Type 0 where
  pub size : length table ≡ place_total joint.slots
  pub entries : (place : ℕ) → numbers_at table place ≡ standing joint puts place
