use Rattle.std.proofs.Common.{◌≡◌, drop}
use Rattle.std.specs.Prelude.{nat_le, sum_by}
use Rattle.mw_tables.specs.WorldShape.{entry_count}
use Rattle.mw_tables.proofs.world_pool.are_few.Given as goal

-- the entries that are left decide
abbrev pub invariant-loop-entry : goal.invariant-loop-entry
invariant-loop-entry l = nat_le (sum_by entry_count (drop l.entry-index l.entries)) l.room ≡ nat_le (sum_by entry_count l.entries) l.most
