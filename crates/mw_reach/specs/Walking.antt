-- For proofs alone: a walk over a joint's steps, by what it reads and by what it changes.
use Rattle.std.specs.Prelude.{ℕ, ◌≤◌, ◌+◌, List, length}
use Rattle.mw_rules.specs.Holds.{Bag, bag_of, places_of}
use Rattle.mw_multi.specs.Joint.{place_total, item_total}
use Rattle.mw_multi.specs.Steps.{Step}
use Rattle.mw_reach.specs.Reach.{Placed}
use Rattle.mw_reach.specs.Counts.{missing}
use Rattle.mw_reach.specs.Rows.{RowFits, steps_in}
use Rattle.mw_reach.specs.Building.{AreJointRows}
use Rattle.mw_reach.specs.Split.{IsSplit, HasTaken}
use Rattle.mw_reach.specs.GoingOn.{IsFinished}
use Rattle.mw_reach.specs.Worklist.{paid, Wakes, IsGoing, IsWorking}
use Rattle.mw_reach.specs.Reached.{IsPlacedFor}
use Rattle.mw_reach.specs.declared.row.Row.{Row}
use Rattle.mw_reach.specs.declared.terrain.Terrain.{Terrain}
use Rattle.mw_reach.specs.declared.tally.Tally.{Tally}
use Rattle.mw_reach.specs.declared.frontier.Frontier.{Frontier}

-- the steps that the rows stand for
abbrev pub steps_on : {R : Type 0} → Terrain R → List Step
steps_on terrain = steps_in terrain.joint.now terrain.rows.now

-- the rows are of steps of the joint, the split is of these, and what is placed is of the joint
pub record IsTerrain {R : Type 0} (terrain : Terrain R) : Type 0 where
  pub rows : AreJointRows terrain.joint.now terrain.rows.now
  pub split : IsSplit (steps_on terrain) terrain.rows.now.by_place terrain.split.now
  pub placed : IsPlacedFor terrain.joint.now terrain.placed.now

-- the row's numbers are among the joint's
abbrev pub RowStands : {R : Type 0} → Terrain R → Row → Type 0
RowStands terrain row =
    RowFits terrain.joint.now (place_total terrain.joint.now.slots)
    (item_total terrain.joint.now.slots) row

-- there is room for each place that isn't listed
abbrev pub HasSpace : Frontier → Type 0
HasSpace frontier = frontier.len + missing frontier.listed.items ≤ length frontier.listed.items

-- these steps were asked, and the places that the open ones lead to were listed
abbrev pub HasWoken : List Step → Tally → Frontier → Frontier → Type 0
HasWoken asked tally before after =
    Wakes asked (bag_of tally.counts.items) (places_of tally.done.items) before.listed.items
    before.queue.items before.len after.listed.items after.queue.items after.len

-- there is room for the counts and for each place that isn't listed
abbrev pub CanGoOn : Placed → Tally → Frontier → Type 0
CanGoOn placed tally frontier =
    IsGoing placed tally.done.items tally.counts.items frontier.listed.items frontier.queue.items
    frontier.len

-- in the midst of the walk, where so many places of the queue were visited
abbrev pub IsWalking : {R : Type 0} → Terrain R → Bag → Tally → Frontier → ℕ → Type 0
IsWalking terrain base tally frontier head =
    IsWorking (steps_on terrain) base terrain.placed.now tally.done.items tally.counts.items
    frontier.listed.items frontier.queue.items head frontier.len

-- the same, with these leaves listed beside the places that were
abbrev pub HasLeaves : {R : Type 0} → Terrain R → Bag → Tally → Frontier → Frontier → ℕ → List ℕ
    → Type 0
HasLeaves terrain base tally before after head leaves =
    HasTaken (steps_on terrain) base terrain.placed.now tally.done.items tally.counts.items
    before.listed.items after.listed.items after.queue.items head after.len leaves

-- nothing waits: it is the least list, with its counts
abbrev pub IsWalked : {R : Type 0} → Terrain R → Bag → Tally → Type 0
IsWalked terrain base tally =
    IsFinished (steps_on terrain) base terrain.placed.now tally.done.items tally.counts.items

-- how many steps the places that are done and what lies there may open
abbrev pub paid_on : {R : Type 0} → Terrain R → Tally → ℕ
paid_on terrain tally = paid terrain.rows.now terrain.placed.now tally.done.items
