use Rattle.std.proofs.Common.{◌≡◌, ◌<◌, ◌≤◌, ◌+◌, ℕ, true, get_or, take}
use Rattle.mw_rules.specs.Holds.{Bag, places_of}
use Rattle.mw_rules.specs.Names.{is_among}
use Rattle.mw_reach.specs.Reached.{IsTallyFor, IsFrontierFor}
use Rattle.mw_reach.specs.Split.{IsLeaf}
use Rattle.mw_reach.specs.Walking.{CanGoOn, IsWalking, HasLeaves, steps_on, paid_on}
use Rattle.mw_reach.proofs.leaf.take_leaves.Given as goal

-- the leaves so far
abbrev pub invariant-loop-leaf : goal.invariant-loop-leaf
invariant-loop-leaf g l = record {
  tally : IsTallyFor l.terrain.joint.now l.tally;
  frontier : IsFrontierFor l.terrain.joint.now l.frontier;
  going : CanGoOn l.terrain.placed.now l.tally l.frontier;
  longer : l.fn.frontier.len ≤ l.frontier.len;
  front : (k : ℕ) → k < l.fn.frontier.len → get_or l.frontier.queue.items k 0 ≡ get_or l.fn.frontier.queue.items k 0;
  steps : l.steps + paid_on l.terrain l.fn.tally ≤ l.fn.steps + paid_on l.terrain l.tally;
  taken : (base : Bag) (head from : ℕ) → head ≤ l.fn.frontier.len → ((t : ℕ) → is_among l.leaves t ≡ true → IsLeaf (steps_on l.terrain) l.terrain.rows.now.by_place from t)
      → places_of l.fn.frontier.listed.items from ≡ true → IsWalking l.terrain base l.fn.tally l.fn.frontier head
      → HasLeaves l.terrain base l.tally l.fn.frontier l.frontier head (take l.leaf-index l.leaves);
}
