use Rattle.std.proofs.Common.{◌≡◌, ◌++◌, drop}
use Rattle.mw_rules.specs.Names.{items_in_all}
use Rattle.mw_rules.specs.View.{rules_view}
use Rattle.mw_rules.proofs.gather.+gather_items.Given as goal

-- what is added so far and what is left to add are all in the end
abbrev pub invariant-gather_items_of-loop-rule : goal.invariant-gather_items_of-loop-rule
invariant-gather_items_of-loop-rule l =
    l.initial.into.items ++ items_in_all (rules_view l.rules) ≡ l.into.items ++ items_in_all (rules_view (drop l.rule-index l.rules))
