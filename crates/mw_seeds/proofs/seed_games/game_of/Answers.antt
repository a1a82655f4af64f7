use Rattle.std.proofs.Common.{flat_map, map, ap, ◌∙◌, sym, subst}
use Rattle.mw_multi.specs.Names.{NamesDiffer}
use Rattle.mw_multidata.specs.SeedKept.{entry_name}
use Rattle.mw_seeds.specs.SeedFile.{item_entry, location_entry}
use Rattle.mw_seeds.proofs.SeedTables.{item_names_apart, location_names_apart}
use Rattle.mw_seeds.proofs.seed_games.game_of.Goals as goal

pub sorted_table-requires : goal.sorted_table-requires
sorted_table-requires c =
    subst (λ es. NamesDiffer (map entry_name es)) (sym (c.in_ok-items.ensures ∙ ap (flat_map item_entry) c.as_slice.ensures)) (item_names_apart c.world.inside.items c.world.invariant.items.names)

pub sorted_table-requires-2 : goal.sorted_table-requires-2
sorted_table-requires-2 c =
    subst (λ es. NamesDiffer (map entry_name es)) (sym (c.in_ok-locations.ensures ∙ ap (flat_map location_entry) c.as_slice-2.ensures))
    (location_names_apart c.world.inside.locations c.world.invariant.locations.names)
