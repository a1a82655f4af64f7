-- Checks, and the items that they give.
use Rattle.std.specs.Prelude.{ℕ, ℤ, negsuc, ◌/◌, ◌%◌, ◌==◌, ◌&&◌, ◌||◌, ◌++◌, ◌∷◌, [], List, Bool, Option, Some, None, false, map, filter, if◌then◌else◌}
use Rattle.std.specs.Ordering.{int_eq}
use Rattle.mw_model.specs.Seed.{Seed, Slot, StartItem, Held, slot_of, is_owner, held_at}
use Rattle.mw_model.specs.Items.{NetItem}

-- a location of a slot, checked in a team
pub record Check : Type 0 where
  pub team : ℕ
  pub slot : ℕ
  pub location : ℤ

abbrev pub same_check : Check → Check → Bool
same_check a b = (a.team == b.team) && (a.slot == b.slot) && int_eq a.location b.location

abbrev pub has_check : List Check → Check → Bool
has_check [] check = false
has_check (first ∷ others) check = same_check first check || has_check others check

-- whether a slot's location is checked in a team
abbrev pub CheckedAt : Type 0
CheckedAt = ℕ → ℕ → ℤ → Bool

abbrev pub is_among : List Check → CheckedAt
is_among checks team slot location =
    has_check checks record { team = team; slot = slot; location = location }

-- locations of a slot, checked in a team
abbrev pub checks_at : ℕ → ℕ → List ℤ → List Check
checks_at team slot [] = []
checks_at team slot (location ∷ locations) =
    record { team = team; slot = slot; location = location } ∷ checks_at team slot locations

-- those of a list that aren't among the seen ones, each once, in order
abbrev pub unseen : List Check → List Check → List Check
unseen seen [] = []
unseen seen (check ∷ others) =
    if has_check seen check then unseen seen others else check ∷ unseen (seen ++ check ∷ []) others

-- Distinct: the first occurrence of each
abbrev pub distinct : List Check → List Check
distinct list = unseen [] list

-- those of the checks that are of a team and slot
abbrev pub locations_in : ℕ → ℕ → List Check → List ℤ
locations_in team slot [] = []
locations_in team slot (c ∷ cs) =
    if (c.team == team) && (c.slot == slot) then c.location ∷ locations_in team slot cs
    else locations_in team slot cs

-- ---- what checks give

-- a starting item is at location -2 of player 0
abbrev pub start_item : StartItem → NetItem
start_item s = record { item = s.item; location = negsuc 1; player = 0; flags = s.flags }

abbrev pub start_items : Option Slot → List NetItem
start_items None = []
start_items (Some slot) = map start_item slot.start

abbrev pub found_item : Held → NetItem
found_item h = record { item = h.item; location = h.location; player = h.slot; flags = h.flags }

-- the item that a check gives to a slot of a team, if it does
abbrev pub item_for : Seed → ℕ → ℕ → Check → Option Held → List NetItem
item_for seed team slot check None = []
item_for seed team slot check (Some h) =
    if (check.team == team) && is_owner seed h.receiver slot then found_item h ∷ [] else []

-- the items that checks give to a slot of a team, in order
abbrev pub items_found : Seed → ℕ → ℕ → List Check → List NetItem
items_found seed team slot [] = []
items_found seed team slot (check ∷ others) =
    item_for seed team slot check (held_at seed check.slot check.location)
    ++ items_found seed team slot others

-- Received: the starting items, then the items of the distinct checks in journal order
abbrev pub received_in : Seed → ℕ → ℕ → List Check → List NetItem
received_in seed team slot checks =
    start_items (slot_of seed slot) ++ items_found seed team slot checks

-- bit 4 of a mask keeps starting items, bit 2 items of the own world, bit 1 items of other worlds
abbrev pub keeps : ℕ → ℕ → NetItem → Bool
keeps mask slot item =
    if item.player == 0 then mask / 4 % 2 == 1
    else (if item.player == slot then mask / 2 % 2 == 1 else mask % 2 == 1)

-- View: what a mask keeps of what a slot received
abbrev pub view_in : Seed → ℕ → ℕ → ℕ → List Check → List NetItem
view_in seed mask team slot checks = filter (keeps mask slot) (received_in seed team slot checks)
