use Rattle.std.proofs.Common.{◌≡◌, ◌≢◌, ◌+◌, ◌<◌, ◌≤◌, ◌++◌, ◌∷◌, [], ℕ, Vec, Global, length, drop, get_or, cond}
use Rattle.std.specs.Prelude.{vec_len, vec_capacity}
use Rattle.std.specs.Ordering.{nat_cmp}
use Rattle.mw_model.specs.Ascending.{Ascend}
use Rattle.mw_model.specs.Seed.{has_number}
use Rattle.mw_checks.specs.Rows.{one_if, seat}
use Rattle.mw_checks.proofs.rows.put_for_each.Given as goal

-- what was put, with what is still to put, is what is put for all
abbrev pub invariant-loop-slot : goal.invariant-loop-slot
invariant-loop-slot l = record {
  team : l.team < 8;
  many : length l.rows.items ≡ length l.initial.rows.items;
  ascend : Ascend nat_cmp (drop l.slot-index l.slots);
  items : (s : ℕ) (d : Vec ℕ Global) → s ≤ 1024
      → (get_or l.rows.items (seat s l.team) d).items ++ cond (has_number (drop l.slot-index l.slots) s) (l.number ∷ []) []
      ≡ (get_or l.initial.rows.items (seat s l.team) d).items ++ cond (has_number l.slots s) (l.number ∷ []) [];
  len : (s : ℕ) (d : Vec ℕ Global) → s ≤ 1024
      → vec_len (get_or l.rows.items (seat s l.team) d) + one_if (has_number (drop l.slot-index l.slots) s)
      ≡ vec_len (get_or l.initial.rows.items (seat s l.team) d) + one_if (has_number l.slots s);
  space : (s : ℕ) (d : Vec ℕ Global) → s ≤ 1024 → vec_capacity (get_or l.initial.rows.items (seat s l.team) d) ≤ vec_capacity (get_or l.rows.items (seat s l.team) d);
  others : (other s : ℕ) (d : Vec ℕ Global) → other < 8 → other ≢ l.team → get_or l.rows.items (seat s other) d ≡ get_or l.initial.rows.items (seat s other) d;
}
