use Rattle.std.proofs.Common.{◌≡◌, drop}
use Rattle.mw_tables.specs.Names.{names_once}
use Rattle.mw_tables.proofs.once.judge_regions.Given as goal

abbrev pub invariant-loop-i : goal.invariant-loop-i
invariant-loop-i l = names_once l.tables.regions l.i (drop l.i l.tables.regions) ≡ names_once l.tables.regions 0 l.tables.regions
