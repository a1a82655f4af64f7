use Rattle.std.proofs.Common.{◌≡◌, drop}
use Rattle.std.specs.List.{list_all}
use Rattle.mw_fill.specs.Fill.{is_minimal_at}
use Rattle.mw_fill.proofs.missable.are_minimal.Given as goal

-- the numbers that are left decide
abbrev pub invariant-loop-number : goal.invariant-loop-number
invariant-loop-number l = list_all (is_minimal_at l.joint.slots) l.numbers ≡ list_all (is_minimal_at l.joint.slots) (drop l.number-index l.numbers)
