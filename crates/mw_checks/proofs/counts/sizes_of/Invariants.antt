use Rattle.std.proofs.Common.{◌≡◌, ◌+◌, ◌≤◌, ℕ, length, drop, get_or, map}
use Rattle.mw_checks.specs.Rows.{many_of, finder_of}
use Rattle.mw_checks.proofs.counts.sizes_of.Given as goal

-- what is counted and what is still to count come to all
abbrev pub invariant-loop-held : goal.invariant-loop-held
invariant-loop-held l = record {
  many : length l.counts.items ≡ 1025;
  counted : (s : ℕ) → s ≤ 1024 → get_or l.counts.items s 0 + many_of s (map finder_of (drop l.held-index l.locations)) ≡ many_of s (map finder_of l.locations);
  few : (s : ℕ) → s ≤ 1024 → get_or l.counts.items s 0 ≤ l.held-index;
}
