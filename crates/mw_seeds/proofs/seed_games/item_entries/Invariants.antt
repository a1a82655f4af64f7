use Rattle.std.proofs.Common.{◌≡◌, flat_map, take}
use Rattle.mw_seeds.specs.SeedFile.{item_entry}
use Rattle.mw_seeds.proofs.seed_games.item_entries.Given as goal

abbrev pub invariant-loop-item : goal.invariant-loop-item
invariant-loop-item l = l.entries.items ≡ flat_map item_entry (take l.item-index l.items)
