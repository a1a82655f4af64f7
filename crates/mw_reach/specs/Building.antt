-- Steps that are added to tables, one after another.
use Rattle.std.specs.Prelude.{ℕ, ◌≡◌, ◌<◌, ◌≤◌, ◌+◌, ◌^◌, List, [], ◌∷◌, ◌++◌, Some, None, length}
use Rattle.mw_rules.specs.Rule.{Rule, always}
use Rattle.mw_rules.specs.Ruling.{rule_at}
use Rattle.mw_rules.specs.Names.{AreNames}
use Rattle.mw_multi.specs.Joint.{Slot, Joint, slot_places, slot_items, place_total, item_total}
use Rattle.mw_multi.specs.Steps.{Step}
use Rattle.mw_reach.specs.Rows.{slot_at}
use Rattle.mw_reach.specs.Tables.{IsWatched}
use Rattle.mw_reach.specs.Worklist.{AreRows}
use Rattle.mw_reach.specs.declared.row.Rows.{Rows}

-- the step starts at this place, and its rule, of the slot with these first numbers, names these items and places
pub record StartsThere (from first_place first_item : ℕ) (items places : List ℕ)
    (step : Step) : Type 0 where
  pub from_is : step.from ≡ Some from
  pub place_is : step.first_place ≡ first_place
  pub item_is : step.first_item ≡ first_item
  pub names : AreNames step.rule items places

-- the step starts nowhere and always may
pub record StartsNowhere (step : Step) : Type 0 where
  pub from_is : step.from ≡ None
  pub rule_is : step.rule ≡ always

-- the tables of any steps become those of these and one such step
abbrev pub AddsStep : Rows → Rows → (Step → Type 0) → Type 0
AddsStep old new P = (steps : List Step) (step : Step) → P step → length steps ≡ length old.rows
    → IsWatched steps old.origins old.by_place old.by_item
    → IsWatched (steps ++ step ∷ []) new.origins new.by_place new.by_item

-- the slot has this index in the joint, its numbers are among the joint's, and these are few
pub record SlotFits (joint : Joint) (index : ℕ) (slot : Slot) : Type 0 where
  pub within : index < length joint.slots
  pub there : slot_at joint index ≡ slot
  pub places : slot.first_place + slot_places slot ≤ place_total joint.slots
  pub items : slot.first_item + slot_items slot ≤ item_total joint.slots
  pub few_places : place_total joint.slots < 2 ^ 32
  pub few_items : item_total joint.slots < 2 ^ 32

-- from this number on the rules begin with these
abbrev pub HasRules : List Rule → ℕ → List Rule → Type 0
HasRules rules first these =
    (k : ℕ) → k < length these
    → (first + k < length rules) × (rule_at rules (first + k) ≡ rule_at these k)

-- the rows of a joint's first steps
abbrev pub AreJointRows : Joint → Rows → Type 0
AreJointRows joint rows = AreRows joint (place_total joint.slots) (item_total joint.slots) rows
