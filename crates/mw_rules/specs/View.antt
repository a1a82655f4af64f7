-- A `Rule` as plain data.
use Rattle.std.specs.Prelude.{List, [], ◌∷◌, map}
use Rattle.mw_rules.specs.Rule as meaning
use Rattle.mw_rules.specs.declared.rule.Rule.{Rule, fold-Rule}
use Rattle.mw_rules.specs.declared.rule.Rule.TheOpen.{Rule-F}

-- the rules of a list, in order
abbrev pub rules_of : List meaning.Rule → meaning.Rules
rules_of [] = meaning.no_rules
rules_of (r ∷ rs) = meaning.a_rule r (rules_of rs)

-- one form, with what each rule inside stands for
abbrev pub rule_step : Rule-F meaning.Rule → meaning.Rule
rule_step Rule-F.Always = meaning.always
rule_step Rule-F.Never = meaning.never
rule_step (Rule-F.Has item count) = meaning.has item count
rule_step (Rule-F.HasAll items) = meaning.has_all items
rule_step (Rule-F.HasAny items) = meaning.has_any items
rule_step (Rule-F.Count items at_least) = meaning.has_count items at_least
rule_step (Rule-F.CanReach place) = meaning.can_reach place
rule_step (Rule-F.And rules) = meaning.all_of (rules_of rules)
rule_step (Rule-F.Or rules) = meaning.some_of (rules_of rules)

-- what the rule stands for
abbrev pub view : Rule → meaning.Rule
view = fold-Rule meaning.Rule rule_step

-- what the rules of a slice stand for
abbrev pub rules_view : List Rule → meaning.Rules
rules_view rs = rules_of (map view rs)
