use Rattle.std.proofs.Common.{pos, ◌≤ℤ◌, arith}
use Rattle.std.proofs.lemmas.Int.{ints}
use Rattle.mw_room.proofs.Slots.{nothing_there}
use Rattle.mw_room.proofs.hinting.slot_of_number.Goals as goal
use Rattle.mw_room.proofs.hinting.slot_of_number.Goals.{else-number-ge1-via-then-number-ge1+else-number-le1024, else-number-ge1-via-else-number-ge1}

pub returns-else-number-ge1-clause-none : goal.returns-else-number-ge1-clause-none
returns-else-number-ge1-clause-none c =
    let out : (pos 1 ≤ℤ c.args.number) → (c.args.number ≤ℤ pos 1024) → ⊥ =
    (λ low high. elim c.else-number-ge1.branch [
      | else-number-ge1-via-then-number-ge1+else-number-le1024 w ↦ omega (arith, ints)
      | else-number-ge1-via-else-number-ge1 w ↦ omega (arith, ints)
    ]) in
    nothing_there c.args.seed.now c.requires c.args.number out
