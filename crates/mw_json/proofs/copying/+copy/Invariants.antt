use Rattle.std.proofs.Common.{◌≡◌, map, take}
use Rattle.mw_json.specs.View.{view, member_view}
use Rattle.mw_json.proofs.copying.+copy.Given as goal

abbrev pub invariant-copy_items-loop-item : goal.invariant-copy_items-loop-item
invariant-copy_items-loop-item l = map view l.copied ≡ map view (take l.item-index l.items)

abbrev pub invariant-copy_members-loop-member : goal.invariant-copy_members-loop-member
invariant-copy_members-loop-member l = map member_view l.copied ≡ map member_view (take l.member-index l.members)
