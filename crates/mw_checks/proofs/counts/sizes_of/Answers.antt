use Rattle.std.proofs.Common.{◌≡◌, ℕ, List, length, get_or, ap, ◌∙◌, arith}
use Rattle.std.proofs.lemmas.List.{length-replicate}
use Rattle.mw_checks.proofs.Counting.{get_or-replicate_same}
use Rattle.mw_checks.proofs.counts.sizes_of.Goals as goal

pub loop-held-init : goal.loop-held-init
loop-held-init c =
    let none : (slot : ℕ) → get_or c.in_ok-counts.counts.items slot 0 ≡ 0 = λ slot. ap (λ (xs : List ℕ). get_or xs slot 0) c.in_ok-counts.ensures ∙ get_or-replicate_same 1025 slot 0 in
    record {
      many = ap length c.in_ok-counts.ensures ∙ length-replicate {A = ℕ} 1025 0;
      counted = λ slot few. omega (arith, none slot);
      few = λ slot few. omega (arith, none slot);
    }
