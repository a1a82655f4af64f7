use Rattle.std.proofs.Common.{◌≡◌, ◌≤◌, ◌<◌, ◌/◌, ℕ, [], Vec, Global, length, get_or}
use Rattle.std.specs.Prelude.{vec_len, vec_capacity}
use Rattle.mw_checks.proofs.rows.empty_rows.Given as goal

-- the rows so far are empty and have their memory
abbrev pub invariant-loop-at : goal.invariant-loop-at
invariant-loop-at l = record {
  many : length l.rows.items ≡ l.at;
  items : (i : ℕ) (d : Vec ℕ Global) → i < l.at → (get_or l.rows.items i d).items ≡ [];
  len : (i : ℕ) (d : Vec ℕ Global) → i < l.at → vec_len (get_or l.rows.items i d) ≡ 0;
  room : (i : ℕ) (d : Vec ℕ Global) → i < l.at → get_or l.counts (i / 8) 0 ≤ vec_capacity (get_or l.rows.items i d);
}
