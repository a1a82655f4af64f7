use Rattle.std.proofs.Common.{rules, codes, refl}
use Rattle.mw_json.specs.View.{view, members_view}
use Rattle.mw_packets_in.specs.Fields.{any_at}
use Rattle.mw_packets_in.proofs.Passed.{operand_passed}
use Rattle.mw_packets_in.proofs.operations.operation_of.Goals as goal

pub invariant_of-result : goal.invariant_of-result
invariant_of-result c =
    operand_passed (view c.in_ok-value.value) (view c.args.tree.now) (members_view c.in_ok-members.members.now) c.in_ok-members.ensures c.requires
    (c.in_ok-value.ensures any_at (codes "value") refl (search rules))
