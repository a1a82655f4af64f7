use Rattle.std.proofs.Common.{◌≡◌, ◌+◌, ◌≤◌, ℕ, length, drop, get_or, map}
use Rattle.mw_checks.specs.Rows.{many_of, receivers_of}
use Rattle.mw_checks.proofs.counts.receipts_of.Given as goal

-- what is counted and what is still to count come to all
abbrev pub invariant-loop-held : goal.invariant-loop-held
invariant-loop-held l = record {
  many : length l.counts.items ≡ 1025;
  counted : (s : ℕ) → s ≤ 1024 → get_or l.counts.items s 0 + many_of s (map (receivers_of l.multidata) (drop l.held-index l.held-items))
      ≡ many_of s (map (receivers_of l.multidata) l.held-items);
  few : (s : ℕ) → s ≤ 1024 → get_or l.counts.items s 0 ≤ l.held-index;
}
