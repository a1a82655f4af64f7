use Rattle.std.proofs.Common.{◌≡◌, drop}
use Rattle.std.specs.Prelude.{nat_le}
use Rattle.mw_tables.specs.Raw.{depth_of}
use Rattle.mw_tables.specs.RawView.{raw_rules_view}
use Rattle.mw_tables.proofs.rules.+shallow.Given as goal

-- the rules that are left decide
abbrev pub invariant-are_shallow-loop-rule : goal.invariant-are_shallow-loop-rule
invariant-are_shallow-loop-rule l = nat_le (depth_of (raw_rules_view (drop l.rule-index l.rules))) l.most ≡ nat_le (depth_of (raw_rules_view l.rules)) l.most
