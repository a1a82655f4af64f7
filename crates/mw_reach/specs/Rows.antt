-- What the rows of a joint stand for.
use Rattle.std.specs.Prelude.{ℕ, ◌<◌, ◌≤◌, ◌+◌, List, [], Option, Some, None, IfSome, length, map, slice_index_or}
use Rattle.mw_rules.specs.Rule.{Rule, always, IsWithin}
use Rattle.mw_rules.specs.Ruling.{rule_at}
use Rattle.mw_multi.specs.Files.{no_world}
use Rattle.mw_multi.specs.Joint.{Slot, Joint, slot_places, slot_items}
use Rattle.mw_multi.specs.Steps.{Step, rule_list}
use Rattle.mw_multi.specs.declared.access.Access.TheVariants.{Items}
use Rattle.mw_reach.specs.declared.row.Start.{Start}
use Rattle.mw_reach.specs.declared.row.Row.{Row}
use Rattle.mw_reach.specs.declared.row.Rows.{Rows}

-- a slot of empty tables, which stands past the end
abbrev pub no_slot : Slot
no_slot = record {
  names = [];
  world = no_world;
  first_place = 0;
  first_item = 0;
  local_items = [];
  non_local_items = [];
  exclude_locations = [];
  priority_locations = [];
  start = [];
  pool = [];
  access = Items;
}

-- the slot with this index, from 0
abbrev pub slot_at : Joint → ℕ → Slot
slot_at joint n = slice_index_or joint.slots n no_slot

-- where a row starts
abbrev pub from_of : Option Start → Option ℕ
from_of None = None
from_of (Some start) = Some start.from

-- a row's rule: it always holds where the row starts nowhere
abbrev pub rule_of : List Rule → Option Start → Rule
rule_of rules None = always
rule_of rules (Some start) = rule_at rules start.rule

-- the step that a row of the slot stands for
abbrev pub step_in : List Rule → Slot → Row → Step
step_in rules slot row =
    record {
      from = from_of row.start;
      to = row.to;
      rule = rule_of rules row.start;
      first_place = slot.first_place;
      first_item = slot.first_item;
    }

-- the step that a row stands for
abbrev pub step_of : Joint → Row → Step
step_of joint row = step_in (rule_list joint) (slot_at joint row.slot) row

-- the start is at one of so many places, and its rule is one of these and speaks of the slot
pub record StartFits (rules : List Rule) (slot : Slot) (places : ℕ) (start : Start) : Type 0 where
  pub from_fits : start.from < places
  pub number_fits : start.rule < length rules
  pub rule_fits : IsWithin (slot_items slot) (slot_places slot) (rule_at rules start.rule)

-- the row's numbers are among the joint's slots and rules, and among so many places and items
pub record RowFits (joint : Joint) (places items : ℕ) (row : Row) : Type 0 where
  pub slot_fits : row.slot < length joint.slots
  pub places_fit : (slot_at joint row.slot).first_place + slot_places (slot_at joint row.slot)
      ≤ places
  pub items_fit : (slot_at joint row.slot).first_item + slot_items (slot_at joint row.slot) ≤ items
  pub to_fits : row.to < places
  pub start_fits : IfSome row.start (StartFits (rule_list joint) (slot_at joint row.slot) places)

-- the steps that rows stand for
abbrev pub steps_in : Joint → Rows → List Step
steps_in joint rows = map (step_of joint) rows.rows
