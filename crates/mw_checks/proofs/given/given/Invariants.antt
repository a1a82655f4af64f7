use Rattle.std.proofs.Common.{◌≡◌, ◌++◌, drop}
use Rattle.mw_checks.specs.Views.{asked_of, given_to}
use Rattle.mw_checks.proofs.given.given.Given as goal

abbrev pub invariant-loop-slot : goal.invariant-loop-slot
invariant-loop-slot l = l.found ++ asked_of l.handling (given_to l.places l.handling.slot (drop l.slot-index l.pairs)) ≡ asked_of l.handling (given_to l.places l.handling.slot l.pairs)
