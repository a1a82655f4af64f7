use Rattle.std.proofs.Common.{◌≡◌, ℕ, List, ◌+◌, ◌∙◌, sym, ap, ap₂, subst, get_or, take, arith}
use Rattle.std.specs.Prelude.{sum_by}
use Rattle.std.proofs.lemmas.List.Sums.{sum_by_more}
use Rattle.mw_multi.specs.World.{PoolEntry}
use Rattle.mw_multi.specs.WorldKept as kept
use Rattle.mw_multi.specs.Players.{ItemLink}
use Rattle.mw_multi.specs.Joint.{Link}
use Rattle.mw_multi.specs.Bags.{member_count}
use Rattle.mw_multi.proofs.Counts.{member_bound, one_more}
use Rattle.mw_multi.proofs.bag.add_link.Goals as goal

pub loop-member-preserved : goal.loop-member-preserved
loop-member-preserved c =
    let slots = c.args.joint.now.slots in
    let link = c.args.link.now in
    let items = c.as_slice-member-items.result.now in
    let i = c.loop-member.member-index in
    let m = c.member-item.result in
    let members : items ≡ link.members = c.as_slice-member-items.ensures ∙ ap (λ (l : ItemLink). l.members) c.shared.view_is ∙ ap (λ (l : Link). l.members) c.link.view_is in
    let copies : c.as_slice.result.now ≡ link.copies = c.as_slice.ensures ∙ ap (λ (l : Link). l.copies) c.link.view_is in
    let owner : c.get.result ≡ get_or items i m = c.get.ensures.value ∙ c.member-item.is in
    let more : (n : ℕ) → sum_by (member_count slots n link.copies) (take (i + 1) link.members) ≡ sum_by (member_count slots n link.copies) (take i link.members) + member_count slots n c.as_slice.result.now c.get.result = λ n.
    subst (λ (ms : List ℕ). sum_by (member_count slots n link.copies) (take (i + 1) ms) ≡ sum_by (member_count slots n link.copies) (take i ms) + member_count slots n c.as_slice.result.now c.get.result) members
    (sum_by_more (member_count slots n link.copies) items i m c.loop-member-test.true ∙ ap₂ (λ (es : List PoolEntry) (o : ℕ). sum_by (member_count slots n link.copies) (take i items) + member_count slots n es o) (sym copies) (sym owner)) in
    record {
      size = c.add_owned.ensures.size ∙ c.loop-member.invariant.size;
      counts = λ n. omega (arith, c.add_owned.ensures.counts n, c.loop-member.invariant.counts n, more n);
      bound = λ n. rw (more n) (one_more i (sum_by kept.copies link.copies) (sum_by (member_count slots n link.copies) (take i link.members)) (member_count slots n c.as_slice.result.now c.get.result) (c.loop-member.invariant.bound n)
          (rw (sym copies) (member_bound slots n c.as_slice.result.now c.get.result)));
    }
