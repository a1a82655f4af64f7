use Rattle.mw_multi.proofs.LabelNames.{item_labels_differ}
use Rattle.mw_multi.proofs.names.labels_of_world.Goals as goal

pub of-requires-clause-differ : goal.of-requires-clause-differ
of-requires-clause-differ c = rw (c.in_ok-items.ensures, c.as_slice.ensures) (item_labels_differ c.world.inside.items c.world.invariant.items.names)
