use Rattle.std.proofs.Common.{◌≡◌, drop}
use Rattle.std.specs.Prelude.{nat_le, sum_by}
use Rattle.mw_multi.specs.PlayersKept.{start_count}
use Rattle.mw_tables.proofs.player_options.are_few.Given as goal

-- the entries that are left decide
abbrev pub invariant-loop-entry : goal.invariant-loop-entry
invariant-loop-entry l = nat_le (sum_by start_count (drop l.entry-index l.entries)) l.room ≡ nat_le (sum_by start_count l.entries) l.most
