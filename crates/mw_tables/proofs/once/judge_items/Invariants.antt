use Rattle.std.proofs.Common.{◌≡◌, drop}
use Rattle.mw_tables.specs.WorldNames.{items_named}
use Rattle.mw_tables.proofs.once.judge_items.Given as goal

abbrev pub invariant-loop-i : goal.invariant-loop-i
invariant-loop-i l = items_named l.tables l.i (drop l.i l.tables.items) ≡ items_named l.tables 0 l.tables.items
