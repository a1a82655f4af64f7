use Rattle.std.proofs.Common.{List, [], length}
use Rattle.mw_model.specs.Items.{NetItem}
use Rattle.mw_client.specs.Bodies.{Leads}
use Rattle.mw_client.proofs.saved.saved_list.Given as goal

-- all bytes lead to where the rest leads from the list so far
abbrev pub invariant-loop-rest : goal.invariant-loop-rest
invariant-loop-rest l = record {
  onward : (after : List NetItem) → Leads l.list.items l.rest after → Leads [] l.fn.bytes after;
  back : (after : List NetItem) → Leads [] l.fn.bytes after → Leads l.list.items l.rest after;
}

abbrev pub decreases-loop-rest : goal.decreases-loop-rest
decreases-loop-rest l = length l.rest
