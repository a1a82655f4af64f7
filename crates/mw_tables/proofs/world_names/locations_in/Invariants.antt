use Rattle.std.proofs.Common.{◌≡◌, drop}
use Rattle.mw_tables.specs.WorldNames.{locations_named}
use Rattle.mw_json.proofs.Fronts.{with_front}
use Rattle.mw_tables.proofs.world_names.locations_in.Given as goal

abbrev pub invariant-loop-i : goal.invariant-loop-i
invariant-loop-i l = with_front l.locations (locations_named l.tables l.i (drop l.i l.tables.locations)) ≡ locations_named l.tables 0 l.tables.locations
