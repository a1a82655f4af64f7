-- Rules by number.
use Rattle.std.specs.Prelude.{ℕ, List, slice_index_or}
use Rattle.mw_rules.specs.Rule.{Rule, never}

-- the rule with this number, from 0; past the end stands a rule that never holds
abbrev pub rule_at : List Rule → ℕ → Rule
rule_at rules n = slice_index_or rules n never
