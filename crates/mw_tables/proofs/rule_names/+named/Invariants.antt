use Rattle.std.proofs.Common.{◌≡◌, drop, map}
use Rattle.mw_json.specs.Grammar.{under}
use Rattle.mw_json.specs.declared.refusal.Step.TheVariants.{Name}
use Rattle.mw_json.proofs.Fronts.{with_front}
use Rattle.mw_rules.specs.View.{view}
use Rattle.mw_tables.specs.RawView.{raw_rules_view}
use Rattle.mw_tables.specs.RuleNames.{rules_under, rules_named}
use Rattle.mw_tables.proofs.rule_names.+named.Given as goal

abbrev pub invariant-rules_in-loop-i : goal.invariant-rules_in-loop-i
invariant-rules_in-loop-i l = under (Name l.name) (with_front (map view l.found) (rules_named l.tables l.i (raw_rules_view (drop l.i l.rules)))) ≡ rules_under l.name l.tables (raw_rules_view l.rules)
