use Rattle.std.proofs.Common.{◌≡◌, ℕ, length, take}
use Rattle.mw_multi.specs.Links.{row_at, copies_in}
use Rattle.mw_multi.proofs.left.row_of.Given as goal

abbrev pub invariant-loop-entry : goal.invariant-loop-entry
invariant-loop-entry l = record {
  size : length l.row ≡ length l.world.items;
  counts : (n : ℕ) → row_at l.row n ≡ copies_in (take l.entry-index l.world.pool) n;
}
