-- A `RawRule` as plain data.
use Rattle.std.specs.Prelude.{List, map}
use Rattle.mw_tables.specs.Raw as meaning
use Rattle.mw_tables.specs.declared.raw_rule.RawRule.{RawRule, fold-RawRule}
use Rattle.mw_tables.specs.declared.raw_rule.RawRule.TheOpen.{RawRule-F}

-- one form, with what each rule inside stands for
abbrev pub rule_step : RawRule-F meaning.RawRule → meaning.RawRule
rule_step RawRule-F.Always = meaning.always
rule_step RawRule-F.Never = meaning.never
rule_step (RawRule-F.Has item count) = meaning.has item count
rule_step (RawRule-F.HasAll items) = meaning.has_all items
rule_step (RawRule-F.HasAny items) = meaning.has_any items
rule_step (RawRule-F.Count items at_least) = meaning.has_count items at_least
rule_step (RawRule-F.Region name) = meaning.reach_region name
rule_step (RawRule-F.Location name) = meaning.reach_location name
rule_step (RawRule-F.And rules) = meaning.all_of (meaning.rules_of rules)
rule_step (RawRule-F.Or rules) = meaning.some_of (meaning.rules_of rules)

-- what the rule stands for
abbrev pub raw_view : RawRule → meaning.RawRule
raw_view = fold-RawRule meaning.RawRule rule_step

-- what the rules of a slice stand for
abbrev pub raw_rules_view : List RawRule → meaning.RawRules
raw_rules_view rs = meaning.rules_of (map raw_view rs)
