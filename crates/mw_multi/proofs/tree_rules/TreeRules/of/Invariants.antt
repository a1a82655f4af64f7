use Rattle.std.proofs.Common.{◌≡◌, ◌≤◌, ◌*◌, length, take}
use Rattle.std.specs.Prelude.{flat_map}
use Rattle.mw_multi.specs.Steps.{slot_rules}
use Rattle.mw_multi.proofs.tree_rules.TreeRules.of.Given as goal

abbrev pub invariant-loop-slot : goal.invariant-loop-slot
invariant-loop-slot l = record {
  rules : l.trees ≡ flat_map slot_rules (take l.slot-index l.fn.joint.slots);
  few : length l.trees ≤ 20001 * l.slot-index;
}
