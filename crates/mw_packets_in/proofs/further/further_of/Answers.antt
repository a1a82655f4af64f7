use Rattle.std.proofs.Common.{◌≡◌, ◌∷◌, ◌+◌, suc, add-one, drop, drop-cons, map, sym, ap, ◌∙◌}
use Rattle.mw_json.specs.View.{member_view, members_view}
use Rattle.mw_protocol.specs.Further.{others}
use Rattle.mw_packets_in.specs.Own.{own_names}
use Rattle.mw_packets_in.proofs.Others.{ahead, none_left, one_more}
use Rattle.mw_packets_in.proofs.further.further_of.Goals as goal

pub loop-member-preserved : goal.loop-member-preserved
loop-member-preserved c =
    let next : drop c.loop-member.member-index c.args.members.now ≡ c.member-item.result ∷ drop (c.loop-member.member-index + 1) c.args.members.now =
    drop-cons c.args.members.now c.loop-member.member-index c.member-item.result c.loop-member-test.true
    ∙ (ap (λ x. x ∷ drop (suc c.loop-member.member-index) c.args.members.now) (sym c.member-item.is) ∙ ap (λ k. c.member-item.result ∷ drop k c.args.members.now) (sym (add-one c.loop-member.member-index))) in
    rw c.in_ok-push.ensures.ok
    (one_more (own_names c.args.row) c.loop-member.found c.in_ok-copy_member.field-0 c.member-item.result (drop (c.loop-member.member-index + 1) c.args.members.now) c.in_ok-copy_member.ensures (sym c.is_own_member.ensures ∙ c.if-is_own_member.false)
    ∙ (ap (λ l. ahead (map member_view c.loop-member.found) (others (own_names c.args.row) (members_view l))) (sym next) ∙ c.loop-member.invariant))

pub returns : goal.returns
returns c = sym (none_left (own_names c.args.row) (map member_view c.loop-member.found) c.args.members.now c.loop-member.member-index c.loop-member-test.false) ∙ c.loop-member.invariant
