use Rattle.std.proofs.Common.{◌≡◌, map, take}
use Rattle.mw_rules.specs.View.{view}
use Rattle.mw_rules.proofs.copy.+copy.Given as goal

abbrev pub invariant-copy_rules-loop-rule : goal.invariant-copy_rules-loop-rule
invariant-copy_rules-loop-rule l = map view l.copy ≡ map view (take l.rule-index l.rules)
