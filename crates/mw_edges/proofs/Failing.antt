-- Which calls of an object in memory may fail.
use Rattle.std.proofs.Common.{◌≡◌, ◌≤◌, ℕ, List, [], ◌∷◌, true, arith}
use Rattle.std.specs.Prelude.{IsTrue, nat_eq, nat_le}
use Rattle.std.specs.List.{list_any}
use Rattle.std.proofs.lemmas.Grind.{common_steps}
use Rattle.mw_edges.specs.FaultPlan.{FaultPlan, fails, may_fail}

now_later : (call : ℕ) (failing : List ℕ) → list_any (λ n. nat_eq n call) failing ≡ true → list_any (λ n. nat_le call n) failing ≡ true
now_later call [] h = h
now_later call (n ∷ ns) h = grind (arith, common_steps, now_later call ns, h)

-- what fails now may fail
pub may_fail_now : (plan : FaultPlan) → IsTrue (fails plan) → IsTrue (may_fail plan)
may_fail_now plan h = now_later plan.call plan.failing h

later_now : (call later : ℕ) (failing : List ℕ) → call ≤ later → list_any (λ n. nat_le later n) failing ≡ true → list_any (λ n. nat_le call n) failing ≡ true
later_now call later [] k h = h
later_now call later (n ∷ ns) k h = grind (arith, common_steps, later_now call later ns k, h)

-- what may fail after some calls may fail before them
pub may_fail_before : (before after : FaultPlan) → before.call ≤ after.call → after.failing ≡ before.failing → IsTrue (may_fail after) → IsTrue (may_fail before)
may_fail_before before after k same h =
    let was : list_any (λ n. nat_le after.call n) before.failing ≡ true = rw (same) at h in
    later_now before.call after.call before.failing k was
