use Rattle.std.proofs.Common.{◌≡◌, All}
use Rattle.mw_bench.proofs.racing.race.Given as goal

abbrev pub invariant-loop : goal.invariant-loop
invariant-loop g l = (l.first.lock ≡ l.lock-inside.table.shared.table_id) × All (λ p. p.lock ≡ l.lock-inside.table.shared.table_id) l.passes.items

abbrev pub invariant-loop-pass : goal.invariant-loop-pass
invariant-loop-pass g l = (l.first.lock ≡ l.lock) × All (λ p. p.lock ≡ l.lock) l.done.items

abbrev pub decreases-loop-pass : goal.decreases-loop-pass
decreases-loop-pass g l = goal.left-loop-pass g l
