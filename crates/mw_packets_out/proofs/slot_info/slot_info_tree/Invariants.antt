use Rattle.std.proofs.Common.{◌≡◌, ◌≤◌, drop, length}
use Rattle.mw_model.specs.Json.{MembersAreWritable}
use Rattle.mw_protocol.specs.Messages.{slot_info_members}
use Rattle.mw_json.specs.View.{members_view}
use Rattle.mw_packets_out.proofs.slot_info.slot_info_tree.Given as goal

-- the later slots are put
abbrev pub invariant-loop-left : goal.invariant-loop-left
invariant-loop-left l =
    (members_view l.infos.items ≡ slot_info_members (drop l.left l.slots)) × MembersAreWritable (members_view l.infos.items) × (l.left ≤ length l.slots)

abbrev pub decreases-loop-left : goal.decreases-loop-left
decreases-loop-left l = l.left
