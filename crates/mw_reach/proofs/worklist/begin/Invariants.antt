use Rattle.std.proofs.Common.{◌≡◌, length, map, take}
use Rattle.mw_rules.specs.Holds.{Bag, Places}
use Rattle.mw_multi.specs.Joint.{Joint}
use Rattle.mw_reach.specs.Rows.{step_of}
use Rattle.mw_reach.specs.Worklist.{steps_at, Wakes}
use Rattle.mw_reach.specs.Walking.{HasSpace}
use Rattle.mw_reach.proofs.worklist.begin.Given as goal

-- the origins so far
abbrev pub invariant-loop-number : goal.invariant-loop-number
invariant-loop-number l = record {
  listed : length l.frontier.listed.items ≡ length l.initial.frontier.listed.items;
  queue : length l.frontier.queue.items ≡ length l.initial.frontier.queue.items;
  space : HasSpace l.frontier;
  woken : (joint : Joint) (bag : Bag) (done : Places)
      → Wakes (steps_at (map (step_of joint) l.rows) (take l.number-index l.origins)) bag done l.initial.frontier.listed.items l.initial.frontier.queue.items 0 l.frontier.listed.items l.frontier.queue.items l.frontier.len;
}
