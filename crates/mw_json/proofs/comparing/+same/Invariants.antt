use Rattle.std.proofs.Common.{◌≡◌, ◌↔◌, drop, length}
use Rattle.mw_json.specs.View.{items_view, members_view}
use Rattle.mw_json.proofs.comparing.+same.Given as goal

abbrev pub invariant-same_items-loop-i : goal.invariant-same_items-loop-i
invariant-same_items-loop-i l =
    ((items_view l.left ≡ items_view l.right) ↔ (items_view (drop l.i l.left) ≡ items_view (drop l.i l.right))) × (length l.left ≡ length l.right)

abbrev pub invariant-same_members-loop-i : goal.invariant-same_members-loop-i
invariant-same_members-loop-i l =
    ((members_view l.left ≡ members_view l.right) ↔ (members_view (drop l.i l.left) ≡ members_view (drop l.i l.right))) × (length l.left ≡ length l.right)
