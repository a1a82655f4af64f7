use Rattle.std.proofs.Common.{◌≡◌, ◌+◌, ◌≤◌, ℕ, List, length, get_or, ap, ◌∙◌, arith}
use Rattle.std.proofs.lemmas.List.{length-replicate}
use Rattle.mw_model.specs.Seed.{Held, is_owner}
use Rattle.mw_checks.specs.Rows.{one_if, receivers_of}
use Rattle.mw_checks.proofs.Counting.{counted_next, few_of, get_or-replicate_same}
use Rattle.mw_checks.proofs.counts.receipts_of.Goals as goal

pub loop-held-init : goal.loop-held-init
loop-held-init c =
    let none : (slot : ℕ) → get_or c.in_ok-counts.counts.items slot 0 ≡ 0 = λ slot. ap (λ (xs : List ℕ). get_or xs slot 0) c.in_ok-counts.ensures ∙ get_or-replicate_same 1025 slot 0 in
    record {
      many = ap length c.in_ok-counts.ensures ∙ length-replicate {A = ℕ} 1025 0;
      counted = λ slot few. omega (arith, none slot);
      few = λ slot few. omega (arith, none slot);
    }

pub loop-held-preserved : goal.loop-held-preserved
loop-held-preserved c =
    let l = c.loop-held in
    let seed = c.args.multidata.now in
    let hs = c.as_slice-held-items.result.now in
    let h = c.held-item.result in
    let receiver : c.held.inside.receiver ≡ h.receiver = ap (λ (x : Held). x.receiver) c.held.view_is in
    let one : (s : ℕ) → s ≤ 1024 → get_or c.count_owners.new.counts.items s 0 ≡ get_or l.counts.items s 0 + one_if (receivers_of seed h s) =
    λ s few. c.count_owners.ensures.counts s few ∙ ap (λ (r : ℕ). get_or l.counts.items s 0 + one_if (is_owner seed r s)) receiver in
    record {
      many = c.count_owners.ensures.many;
      counted = λ s few. omega (arith, one s few, counted_next (receivers_of seed) hs l.held-index s h c.loop-held-test.true c.held-item.is, l.invariant.counted s few);
      few = λ s few. omega (arith, one s few, few_of (receivers_of seed h s), l.invariant.few s few);
    }
