use Rattle.mw_packets_out.specs.Kept.{retrieved_names}
use Rattle.mw_packets_out.proofs.Further.{further_writable}
use Rattle.mw_packets_out.proofs.values.retrieved_tree.Goals as goal

pub further_of-requires : goal.further_of-requires
further_of-requires c = further_writable retrieved_names _ (rw c.as_slice.ensures c.it.invariant.further)
