use Rattle.std.proofs.Common.{take}
use Rattle.mw_reach.specs.Reach.{times_in}
use Rattle.mw_reach.specs.Tables.{IsNoted, shifted}
use Rattle.mw_reach.proofs.watch.note_items.Given as goal

-- the items so far
abbrev pub invariant-loop-item : goal.invariant-loop-item
invariant-loop-item l = IsNoted l.initial.table l.table l.number (λ k. times_in k (shifted l.first (take l.item-index l.items)))
