use Rattle.std.proofs.Common.{◌≡◌, drop}
use Rattle.mw_tables.specs.WorldNames.{entries_named}
use Rattle.mw_json.proofs.Fronts.{with_front}
use Rattle.mw_tables.proofs.world_names.entries_in.Given as goal

abbrev pub invariant-loop-i : goal.invariant-loop-i
invariant-loop-i l = with_front l.entries (entries_named l.tables l.i (drop l.i l.tables.pool)) ≡ entries_named l.tables 0 l.tables.pool
