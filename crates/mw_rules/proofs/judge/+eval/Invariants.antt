use Rattle.std.proofs.Common.{◌≡◌, drop, length}
use Rattle.mw_rules.specs.Rule.{AreWithin}
use Rattle.mw_rules.specs.Holds.{bag_of, places_of, all_hold, some_holds}
use Rattle.mw_rules.specs.View.{rules_view}
use Rattle.mw_rules.proofs.judge.+eval.Given as goal

-- the rules that are left decide
abbrev pub invariant-eval_all-loop-rule : goal.invariant-eval_all-loop-rule
invariant-eval_all-loop-rule l =
    (all_hold (rules_view l.rules) (bag_of l.counts) (places_of l.places) ≡ all_hold (rules_view (drop l.rule-index l.rules)) (bag_of l.counts) (places_of l.places))
    × AreWithin (length l.counts) (length l.places) (rules_view (drop l.rule-index l.rules))

abbrev pub invariant-eval_some-loop-rule : goal.invariant-eval_some-loop-rule
invariant-eval_some-loop-rule l =
    (some_holds (rules_view l.rules) (bag_of l.counts) (places_of l.places) ≡ some_holds (rules_view (drop l.rule-index l.rules)) (bag_of l.counts) (places_of l.places))
    × AreWithin (length l.counts) (length l.places) (rules_view (drop l.rule-index l.rules))
