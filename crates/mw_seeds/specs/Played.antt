-- The lines of a playthrough.
use Rattle.std.specs.Prelude.{ℕ, suc, ◌-◌, ◌++◌, List, [], ◌∷◌, Option, Some, None, codes, decimal, flat_map, length, nat_le, slice_get, slice_index_or, if◌then◌else◌}
use Rattle.mw_model.specs.Seed.{Spot}
use Rattle.mw_multi.specs.World.{Item, Location}
use Rattle.mw_multi.specs.Joint.{Slot, Link, Joint}
use Rattle.mw_multi.specs.Steps.{location_place}
use Rattle.mw_multi.specs.Placement.{Put, slot_at, item_at}

-- the slot's name in the first team
abbrev pub first_name : Slot → List ℕ
first_name s = slice_index_or s.names 0 []

-- a slot's name in the first team, an item's and a location's name; none where there is none
abbrev pub slot_name : Option Slot → List ℕ
slot_name None = []
slot_name (Some s) = first_name s

abbrev pub name_of_item : Option Item → List ℕ
name_of_item None = []
name_of_item (Some i) = i.name

abbrev pub name_of_location : Option Location → List ℕ
name_of_location None = []
name_of_location (Some l) = l.name

abbrev pub link_name : Option Link → List ℕ
link_name None = []
link_name (Some l) = l.name

-- a slot's name in the first team, or a link's; links are numbered after the slots
abbrev pub receiver_named : Joint → ℕ → List ℕ
receiver_named joint receiver =
    if nat_le receiver (length joint.slots) then slot_name (slot_at joint.slots receiver)
    else link_name (slice_get joint.links (receiver - suc (length joint.slots)))

-- the receiver of a put, and the item
abbrev pub receiver_name : Joint → Option Put → List ℕ
receiver_name joint None = []
receiver_name joint (Some put) = receiver_named joint put.receiver

abbrev pub put_name : Joint → Option Put → List ℕ
put_name joint None = []
put_name joint (Some put) = name_of_item (item_at joint put.receiver put.item)

-- an event location's own event, or else what stands at its place
abbrev pub stands_with : (ℕ → Option Put) → ℕ → ℕ → Option ℕ → Option Put
stands_with stands number place None = stands place
stands_with stands number place (Some event) = Some record {
  place = place;
  receiver = number;
  item = event;
}

abbrev pub stands_in : (ℕ → Option Put) → ℕ → Slot → ℕ → Option Location → Option Put
stands_in stands number s index None = None
stands_in stands number s index (Some l) =
    stands_with stands number (location_place s index) l.event

-- an entry's line: its sphere's number, who finds it where, for whom, and what
abbrev pub entry_line : ℕ → List ℕ → List ℕ → List ℕ → List ℕ → List ℕ
entry_line number finder location receiver what =
    decimal number ++ codes " " ++ finder ++ codes ": " ++ location ++ codes " -> " ++ receiver
    ++ codes ": " ++ what ++ codes "\n"

abbrev pub put_line : Joint → ℕ → Slot → Option Location → Option Put → List ℕ
put_line joint number s location put =
    entry_line number (first_name s) (name_of_location location) (receiver_name joint put)
    (put_name joint put)

-- the line of a slot's location in the sphere of a number
abbrev pub found_line : Joint → (ℕ → Option Put) → ℕ → ℕ → ℕ → Slot → List ℕ
found_line joint stands number finder index s =
    put_line joint number s (slice_get s.world.locations index)
    (stands_in stands finder s index (slice_get s.world.locations index))

abbrev pub line_of : Joint → (ℕ → Option Put) → ℕ → Spot → Option Slot → List ℕ
line_of joint stands number spot None = []
line_of joint stands number spot (Some s) = found_line joint stands number spot.slot spot.index s

abbrev pub spot_line : Joint → (ℕ → Option Put) → ℕ → Spot → List ℕ
spot_line joint stands number spot =
    line_of joint stands number spot (slot_at joint.slots spot.slot)

-- a line for each entry of the spheres, the first of which has this number
abbrev pub played_lines : Joint → (ℕ → Option Put) → ℕ → List (List Spot) → List ℕ
played_lines joint stands number [] = []
played_lines joint stands number (sphere ∷ spheres) =
    flat_map (spot_line joint stands number) sphere
    ++ played_lines joint stands (suc number) spheres
