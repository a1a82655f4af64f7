use Rattle.std.proofs.Common.{◌≡◌, drop}
use Rattle.mw_tables.specs.WorldNames.{entrances_named}
use Rattle.mw_json.proofs.Fronts.{with_front}
use Rattle.mw_tables.proofs.world_names.entrances_in.Given as goal

abbrev pub invariant-loop-i : goal.invariant-loop-i
invariant-loop-i l = with_front l.entrances (entrances_named l.tables l.i (drop l.i l.tables.entrances)) ≡ entrances_named l.tables 0 l.tables.entrances
