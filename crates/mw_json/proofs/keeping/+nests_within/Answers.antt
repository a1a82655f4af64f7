use Rattle.std.proofs.Common.{◌∙◌, arith, sym}
use Rattle.mw_json.proofs.KeptLoops.{item_at, member_at, more_members_within, more_within}
use Rattle.mw_json.proofs.keeping.+nests_within.Goals as goal

pub items_nest_within-returns-then-not-nests_within : goal.items_nest_within-returns-then-not-nests_within
items_nest_within-returns-then-not-nests_within t c = (
  (λ h. cc),
  λ all.
      let here = item_at c.args.items.now c.loop-item.item-index c.item-item.result c.loop-item-test.true c.item-item.is in
      let yes = c.nests_within.ensures.1 (omega (arith, here, all)) in
      sym c.if-not-nests_within.true ∙ yes,
)

pub items_nest_within-loop-item-preserved : goal.items_nest_within-loop-item-preserved
items_nest_within-loop-item-preserved t c =
    more_within c.args.items.now c.loop-item.item-index c.item-item.result c.args.room c.loop-item-test.true c.item-item.is c.loop-item.invariant (c.nests_within.ensures.0 c.if-not-nests_within.false)

pub members_nest_within-returns-then-not-member_nests_within : goal.members_nest_within-returns-then-not-member_nests_within
members_nest_within-returns-then-not-member_nests_within t c = (
  (λ h. cc),
  λ all.
      let here = member_at c.args.members.now c.loop-member.member-index c.member-item.result c.loop-member-test.true c.member-item.is in
      let yes = c.member_nests_within.ensures.1 (omega (arith, here, all)) in
      sym c.if-not-member_nests_within.true ∙ yes,
)

pub members_nest_within-loop-member-preserved : goal.members_nest_within-loop-member-preserved
members_nest_within-loop-member-preserved t c =
    more_members_within c.args.members.now c.loop-member.member-index c.member-item.result c.args.room c.loop-member-test.true c.member-item.is c.loop-member.invariant (c.member_nests_within.ensures.0 c.if-not-member_nests_within.false)
