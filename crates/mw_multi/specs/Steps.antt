-- The steps from place to place that joined worlds allow, and their rules by number.
use Rattle.std.specs.Prelude.{ℕ, suc, ◌+◌, List, [], ◌∷◌, ◌++◌, Option, Some, None, flat_map, length, map}
use Rattle.mw_rules.specs.Rule.{Rule, always}
use Rattle.mw_multi.specs.World.{Entrance, Location, World}
use Rattle.mw_multi.specs.Joint.{Slot, Joint}

-- a way into a place, from a place or from nowhere; its rule speaks of the slot with these first numbers
pub record Step : Type 0 where
  pub from : Option ℕ
  pub to : ℕ
  pub rule : Rule
  pub first_place : ℕ
  pub first_item : ℕ

-- a step into a place of the slot
abbrev pub step_into : Slot → Option ℕ → ℕ → Rule → Step
step_into slot from to rule =
    record {
      from = from;
      to = slot.first_place + to;
      rule = rule;
      first_place = slot.first_place;
      first_item = slot.first_item;
    }

-- the number of a region, and of a location
abbrev pub region_place : Slot → ℕ → ℕ
region_place slot region = slot.first_place + region

abbrev pub location_place : Slot → ℕ → ℕ
location_place slot index = slot.first_place + (length slot.world.regions + index)

-- a slot begins at its origin
abbrev pub origin_step : Slot → Step
origin_step slot = step_into slot None slot.world.origin always

abbrev pub entrance_step : Slot → Entrance → Step
entrance_step slot e = step_into slot (Some (region_place slot e.from)) e.to e.rule

abbrev pub location_step : Slot → ℕ → Location → Step
location_step slot n l =
    step_into slot (Some (region_place slot l.region)) (length slot.world.regions + n) l.rule

-- the first of these locations has this index
abbrev pub location_steps : Slot → ℕ → List Location → List Step
location_steps slot n [] = []
location_steps slot n (l ∷ ls) = location_step slot n l ∷ location_steps slot (suc n) ls

abbrev pub slot_steps : Slot → List Step
slot_steps slot =
    origin_step slot
    ∷ (map (entrance_step slot) slot.world.entrances ++ location_steps slot 0 slot.world.locations)

-- the steps of all slots
abbrev pub steps_of : Joint → List Step
steps_of joint = flat_map slot_steps joint.slots

-- ---- rules by number

abbrev pub entrance_rule : Entrance → Rule
entrance_rule e = e.rule

abbrev pub location_rule : Location → Rule
location_rule l = l.rule

-- the rules of a world: its entrances' in table order, its locations' in table order, its goal
abbrev pub world_rules : World → List Rule
world_rules w = map entrance_rule w.entrances ++ (map location_rule w.locations ++ w.goal ∷ [])

abbrev pub slot_rules : Slot → List Rule
slot_rules slot = world_rules slot.world

-- the rules of all slots, slot by slot; the rule with number n is the n-th from 0
abbrev pub rule_list : Joint → List Rule
rule_list joint = flat_map slot_rules joint.slots
