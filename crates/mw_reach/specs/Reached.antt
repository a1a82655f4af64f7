-- What was made for a joint.
use Rattle.std.specs.Prelude.{ℕ, ◌≡◌, List, Bool, Some, length}
use Rattle.mw_rules.specs.Holds.{Bag, Places, places_of}
use Rattle.mw_multi.specs.Joint.{Joint, place_total, item_total}
use Rattle.mw_multi.specs.Steps.{rule_list, steps_of}
use Rattle.mw_reach.specs.Reach.{Placed}
use Rattle.mw_reach.specs.Counts.{LiesWithin}
use Rattle.mw_reach.specs.GoingOn.{IsFinished}
use Rattle.mw_reach.specs.Rows.{steps_in}
use Rattle.mw_reach.specs.Building.{AreJointRows}
use Rattle.mw_reach.specs.Split.{IsSplit}
use Rattle.mw_reach.specs.declared.tally.Tally.{Tally}
use Rattle.mw_reach.specs.declared.frontier.Frontier.{Frontier}
use Rattle.mw_reach.specs.declared.work.Work.{Work}
use Rattle.mw_reach.specs.declared.reached.Reached.{Reached}
use Rattle.mw_reach.specs.declared.mark.Mark.{Mark}

-- a count for each item of the joint
abbrev pub IsBagFor : Joint → List ℕ → Type 0
IsBagFor joint bag = length bag ≡ item_total joint.slots

-- an entry for each place of the joint, of the joint's items
pub record IsPlacedFor (joint : Joint) (placed : Placed) : Type 0 where
  pub size : length placed ≡ place_total joint.slots
  pub items : LiesWithin (item_total joint.slots) placed

-- a flag for each place of the joint, and a count for each item
pub record IsTallyFor (joint : Joint) (tally : Tally) : Type 0 where
  pub done : length tally.done.items ≡ place_total joint.slots
  pub counts : length tally.counts.items ≡ item_total joint.slots

-- there is room for each place of the joint
pub record IsFrontierFor (joint : Joint) (frontier : Frontier) : Type 0 where
  pub listed : length frontier.listed.items ≡ place_total joint.slots
  pub queue : length frontier.queue.items ≡ place_total joint.slots

-- the rows are the joint's steps, and there is room for each place and each item
pub record IsWorkFor (joint : Joint) (work : Work) : Type 0 where
  pub rows : AreJointRows joint work.rows
  pub steps : steps_in joint work.rows ≡ steps_of joint
  pub split : IsSplit (steps_in joint work.rows) work.rows.by_place work.split
  pub tally : IsTallyFor joint work.tally
  pub frontier : IsFrontierFor joint work.frontier

-- it was made for the joint
abbrev pub IsMadeFor : Joint → Reached → Type 0
IsMadeFor joint reached = IsWorkFor joint reached.work

-- it keeps the joint's rules
abbrev pub KeepsRules : Joint → Reached → Type 0
KeepsRules joint reached = reached.trees ≡ Some (rule_list joint)

-- for each place, whether it was reached
abbrev pub flags_in : Reached → List Bool
flags_in reached = reached.work.tally.done.items

-- for each item, how many there are in the base and at the places that were reached
abbrev pub counts_in : Reached → List ℕ
counts_in reached = reached.work.tally.counts.items

-- the places that were reached
abbrev pub places_in : Reached → Places
places_in reached = places_of (flags_in reached)

-- it has the least list for the base and the placement, and its counts
abbrev pub HasLeast : Joint → Bag → Placed → Reached → Type 0
HasLeast joint base placed reached =
    IsFinished (steps_of joint) base placed (flags_in reached) (counts_in reached)

-- it was marked at this list and these counts
pub record IsMarkOf (reached : Reached) (mark : Mark) : Type 0 where
  pub done : mark.tally.done.items ≡ flags_in reached
  pub counts : mark.tally.counts.items ≡ counts_in reached

-- the mark is of as many places and as many items
pub record IsAsLarge (reached : Reached) (mark : Mark) : Type 0 where
  pub places : length mark.tally.done.items ≡ length (flags_in reached)
  pub items : length mark.tally.counts.items ≡ length (counts_in reached)
