use Rattle.std.proofs.Common.{◌≡◌, map, take}
use Rattle.std.specs.Prelude.{nat_eq}
use Rattle.std.specs.HashSet.{contains}
use Rattle.mw_answers.specs.Present.{names_of}
use Rattle.mw_answers.proofs.playing.names_there.Given as goal

abbrev pub invariant-loop-i : goal.invariant-loop-i
invariant-loop-i l = map (λ n. n.now) l.names ≡ names_of (λ n. contains nat_eq l.there n) l.team 1 (take l.i l.slots)
