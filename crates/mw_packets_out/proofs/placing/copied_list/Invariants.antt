use Rattle.std.proofs.Common.{◌≡◌, map, take}
use Rattle.mw_json.specs.View.{view}
use Rattle.mw_packets_out.proofs.placing.copied_list.Given as goal

abbrev pub invariant-loop-tree : goal.invariant-loop-tree
invariant-loop-tree l = map view l.copies ≡ map view (take l.tree-index l.trees)
