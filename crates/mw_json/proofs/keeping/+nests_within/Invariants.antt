use Rattle.std.proofs.Common.{◌≤◌, take}
use Rattle.mw_model.specs.Json.{items_depth, members_depth}
use Rattle.mw_json.specs.View.{items_view, members_view}
use Rattle.mw_json.proofs.keeping.+nests_within.Given as goal

abbrev pub invariant-items_nest_within-loop-item : goal.invariant-items_nest_within-loop-item
invariant-items_nest_within-loop-item l = items_depth (items_view (take l.item-index l.items)) ≤ l.room

abbrev pub invariant-members_nest_within-loop-member : goal.invariant-members_nest_within-loop-member
invariant-members_nest_within-loop-member l = members_depth (members_view (take l.member-index l.members)) ≤ l.room
