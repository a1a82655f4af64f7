use Rattle.std.proofs.Common.{◌≡◌, ◌+◌, drop}
use Rattle.mw_model.specs.Json.{ItemsAreWritable, MembersAreWritable}
use Rattle.mw_json.specs.View.{items_view, members_view}
use Rattle.mw_storage.specs.Sizes.{items_size, members_size}
use Rattle.mw_storage.proofs.size.+size.Given as goal

-- the bytes so far and those of what is left
abbrev pub invariant-items_size-loop-item : goal.invariant-items_size-loop-item
invariant-items_size-loop-item l =
    (l.total + items_size (items_view (drop l.item-index l.items)) ≡ items_size (items_view l.items)) × ItemsAreWritable (items_view (drop l.item-index l.items))

abbrev pub invariant-members_size-loop-member : goal.invariant-members_size-loop-member
invariant-members_size-loop-member l =
    (l.total + members_size (members_view (drop l.member-index l.members)) ≡ members_size (members_view l.members)) × MembersAreWritable (members_view (drop l.member-index l.members))
