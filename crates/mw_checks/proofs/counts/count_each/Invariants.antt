use Rattle.std.proofs.Common.{◌≡◌, ◌+◌, ◌≤◌, ℕ, length, drop, get_or}
use Rattle.std.specs.Ordering.{nat_cmp}
use Rattle.mw_model.specs.Ascending.{Ascend}
use Rattle.mw_model.specs.Seed.{has_number}
use Rattle.mw_checks.specs.Rows.{one_if}
use Rattle.mw_checks.proofs.counts.count_each.Given as goal

-- what is counted and what is still to count come to all
abbrev pub invariant-loop-slot : goal.invariant-loop-slot
invariant-loop-slot l = record {
  many : length l.counts.items ≡ 1025;
  ascend : Ascend nat_cmp (drop l.slot-index l.slots);
  counted : (s : ℕ) → s ≤ 1024 → get_or l.counts.items s 0 + one_if (has_number (drop l.slot-index l.slots) s)
      ≡ get_or l.initial.counts.items s 0 + one_if (has_number l.slots s);
}
