use Rattle.std.proofs.Common.{◌≡◌, flat_map, take}
use Rattle.mw_seeds.specs.SeedFile.{location_entry}
use Rattle.mw_seeds.proofs.seed_games.location_entries.Given as goal

abbrev pub invariant-loop-location : goal.invariant-loop-location
invariant-loop-location l = l.entries.items ≡ flat_map location_entry (take l.location-index l.locations)
