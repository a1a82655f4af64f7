use Rattle.std.proofs.Common.{◌≡◌, ℕ, take}
use Rattle.std.specs.Prelude.{nat_eq}
use Rattle.std.specs.HashSet.{contains}
use Rattle.mw_answers.specs.Present.{is_there}
use Rattle.mw_answers.proofs.playing.slots_there.Given as goal

abbrev pub invariant-loop-of : goal.invariant-loop-of
invariant-loop-of l = (n : ℕ) → contains nat_eq l.there n ≡ is_there l.team n (take l.of-index l.members)
