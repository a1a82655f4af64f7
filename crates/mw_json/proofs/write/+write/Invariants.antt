use Rattle.std.proofs.Common.{◌≡◌, ◌++◌, drop}
use Rattle.json.specs.Tree.{items_tokens, members_tokens}
use Rattle.mw_model.specs.Json.{ItemsAreWritable, MembersAreWritable}
use Rattle.mw_model.specs.Spelling.{items_outline, members_outline}
use Rattle.mw_json.specs.View.{items_view, members_view}
use Rattle.mw_json.proofs.write.+write.Given as goal

-- what is written, with what is left, is the whole
abbrev pub invariant-write_items-loop-item : goal.invariant-write_items-loop-item
invariant-write_items-loop-item l =
    (l.out.tokens ++ items_tokens (items_outline (items_view (drop l.item-index l.items))) ≡ l.initial.out.tokens ++ items_tokens (items_outline (items_view l.items)))
    × ItemsAreWritable (items_view (drop l.item-index l.items)) × (l.out.before ≡ l.initial.out.before)

abbrev pub invariant-write_members-loop-member : goal.invariant-write_members-loop-member
invariant-write_members-loop-member l =
    (l.out.tokens ++ members_tokens (members_outline (members_view (drop l.member-index l.members))) ≡ l.initial.out.tokens ++ members_tokens (members_outline (members_view l.members)))
    × MembersAreWritable (members_view (drop l.member-index l.members)) × (l.out.before ≡ l.initial.out.before)
