use Rattle.std.proofs.Common.{◌≡◌, drop}
use Rattle.mw_rules.specs.Names.{is_among}
use Rattle.mw_tables.proofs.rule_names.is_among.Given as goal

-- those that are left decide
abbrev pub invariant-loop-other : goal.invariant-loop-other
invariant-loop-other l = is_among l.items l.item ≡ is_among (drop l.other-index l.items) l.item
