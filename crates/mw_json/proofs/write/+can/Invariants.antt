use Rattle.std.proofs.Common.{◌↔◌, drop}
use Rattle.mw_model.specs.Json.{ItemsAreWritable, MembersAreWritable}
use Rattle.mw_json.specs.View.{items_view, members_view}
use Rattle.mw_json.proofs.write.+can.Given as goal

abbrev pub invariant-can_write_items-loop-item : goal.invariant-can_write_items-loop-item
invariant-can_write_items-loop-item l = ItemsAreWritable (items_view l.items) ↔ ItemsAreWritable (items_view (drop l.item-index l.items))

abbrev pub invariant-can_write_members-loop-member : goal.invariant-can_write_members-loop-member
invariant-can_write_members-loop-member l = MembersAreWritable (members_view l.members) ↔ MembersAreWritable (members_view (drop l.member-index l.members))
