use Rattle.std.proofs.Common.{◌≡◌, ◌++◌, map, take}
use Rattle.mw_reach.specs.Split.{entrance_always}
use Rattle.mw_reach.proofs.always.push_entrances.Given as goal

abbrev pub invariant-loop-entrance : goal.invariant-loop-entrance
invariant-loop-entrance l = l.free ≡ l.fn.free ++ map entrance_always (take l.entrance-index l.entrances)
