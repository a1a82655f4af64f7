use Rattle.std.proofs.Common.{◌≡◌, ◌+◌, ◌==◌, ◌∷◌, ℕ, List, drop, get_or, ap, ◌∙◌, subst, arith}
use Rattle.std.specs.Ordering.{nat_cmp}
use Rattle.mw_model.specs.Ascending.{Ascend}
use Rattle.mw_model.specs.Seed.{has_number}
use Rattle.mw_checks.specs.Rows.{one_if}
use Rattle.mw_checks.proofs.Owning.{counted_apart, next_of}
use Rattle.mw_checks.proofs.counts.count_each.Goals as goal

pub loop-slot-preserved : goal.loop-slot-preserved
loop-slot-preserved c =
    let l = c.loop-slot in
    let slots = c.args.slots.now in
    let m = c.slot-item.result in
    let later = drop (l.slot-index + 1) slots in
    let rest : drop l.slot-index slots ≡ m ∷ later = next_of slots l.slot-index m c.loop-slot-test.true c.slot-item.is in
    let ascend : Ascend nat_cmp (m ∷ later) = subst (Ascend nat_cmp) rest l.invariant.ascend in
    record {
      many = c.count_one.ensures.many;
      ascend = ascend.1;
      counted = λ s few.
          let one : get_or c.count_one.new.counts.items s 0 ≡ get_or l.counts.items s 0 + one_if (m == s) = c.count_one.ensures.counts s few ∙ ap (λ n. get_or l.counts.items s 0 + one_if (n == s)) c.get.ensures.value in
          let all : one_if (has_number (drop l.slot-index slots) s) ≡ one_if (has_number (m ∷ later) s) = ap (λ (ns : List ℕ). one_if (has_number ns s)) rest in
          omega (arith, one, all, counted_apart m later s ascend, l.invariant.counted s few);
    }
