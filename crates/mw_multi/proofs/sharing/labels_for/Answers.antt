use Rattle.std.proofs.Common.{[], sym, subst}
use Rattle.std.specs.List.{IsDistinct}
use Rattle.mw_multi.specs.Labels.{LabelsDiffer}
use Rattle.mw_multi.proofs.sharing.labels_for.Goals as goal

none_differ : LabelsDiffer []
unfolding IsDistinct
none_differ = tt

pub of-requires-clause-differ : goal.of-requires-clause-differ
of-requires-clause-differ c = subst LabelsDiffer (sym c.new.ensures) none_differ
