use Rattle.std.proofs.Common.{◌≡◌, ◌<◌, ℕ, length}
use Rattle.mw_multi.specs.Placement.{numbers_at}
use Rattle.mw_reach.specs.Split.{asked_numbers, leaf_places}
use Rattle.mw_reach.proofs.splitting.split_of.Given as goal

-- the places so far
abbrev pub invariant-loop-place : goal.invariant-loop-place
invariant-loop-place l = record {
  asked_size : length l.asked ≡ l.place;
  leaves_size : length l.leaves ≡ l.place;
  asked_are : (p : ℕ) → p < l.place → numbers_at l.asked p ≡ asked_numbers l.fn.free l.fn.rows.rows l.fn.rows.by_place p;
  leaves_are : (p : ℕ) → p < l.place → numbers_at l.leaves p ≡ leaf_places l.fn.free l.fn.rows.rows l.fn.rows.by_place p;
}
