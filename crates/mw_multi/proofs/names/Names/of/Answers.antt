use Rattle.mw_multi.proofs.LabelNames.{item_labels_differ, location_labels_differ}
use Rattle.mw_multi.proofs.names.Names.of.Goals as goal

pub of-requires-clause-differ : goal.of-requires-clause-differ
of-requires-clause-differ c = rw (c.in_ok-items.ensures, c.as_slice.ensures) (item_labels_differ c.world.inside.items c.world.invariant.items.names)

pub of-requires-2-clause-differ : goal.of-requires-2-clause-differ
of-requires-2-clause-differ c = rw (c.in_ok-locations.ensures, c.as_slice-2.ensures) (location_labels_differ c.world.inside.locations c.world.invariant.locations.names)
