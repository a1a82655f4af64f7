use Rattle.std.proofs.Common.{◌≡◌, length, drop, map, take}
use Rattle.mw_multi.specs.Joint.{Joint}
use Rattle.mw_multi.specs.Placement.{put_numbers}
use Rattle.mw_reach.specs.Reached.{places_in}
use Rattle.mw_fill.specs.Copies.{copy_numbers}
use Rattle.mw_fill.specs.Laying.{AreOrdered, numbers_found}
use Rattle.mw_fill.proofs.going_on.numbers_found.Given as goal

abbrev pub invariant-loop-index : goal.invariant-loop-index
invariant-loop-index l =
    (joint : Joint) → AreOrdered joint l.order.copies.now l.order.numbers.now l.order.begins.now l.order.openings.now
    → map (put_numbers joint) l.laid ≡ map (copy_numbers joint) (take (length l.laid) (drop l.from l.order.copies.now)) → l.found.items ≡ numbers_found joint (places_in l.reached) (take l.index l.laid)
