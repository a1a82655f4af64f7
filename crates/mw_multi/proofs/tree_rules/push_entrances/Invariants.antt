use Rattle.std.proofs.Common.{◌≡◌, ◌++◌, map, take}
use Rattle.mw_multi.specs.Steps.{entrance_rule}
use Rattle.mw_multi.proofs.tree_rules.push_entrances.Given as goal

abbrev pub invariant-loop-entrance : goal.invariant-loop-entrance
invariant-loop-entrance l = l.trees ≡ l.fn.trees ++ map entrance_rule (take l.entrance-index l.entrances)
