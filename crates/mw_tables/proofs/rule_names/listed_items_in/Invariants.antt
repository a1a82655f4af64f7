use Rattle.std.proofs.Common.{◌≡◌, drop, []}
use Rattle.mw_tables.specs.RuleNames.{listed_items}
use Rattle.mw_json.proofs.Fronts.{with_front}
use Rattle.mw_tables.proofs.rule_names.listed_items_in.Given as goal

abbrev pub invariant-loop-i : goal.invariant-loop-i
invariant-loop-i l = with_front l.items (listed_items l.tables l.items l.i (drop l.i l.names)) ≡ listed_items l.tables [] 0 l.names
