-- The slot and the group of a number.
use Rattle.std.proofs.Common.{◌≡◌, ℕ, zero, suc, ◌-◌, ◌≤◌, ◌<◌, None, length, ap, arith}
use Rattle.std.specs.Prelude.{slice_get}
use Rattle.mw_model.specs.Seed.{Seed, slot_of, group_of}

pub slot_of_before : (seed : Seed) (n : ℕ) → 1 ≤ n → slice_get seed.slots (n - 1) ≡ slot_of seed n
slot_of_before seed zero h = absurd (omega arith)
slot_of_before seed (suc n) h = ap (slice_get seed.slots) (omega arith)

pub group_of_slot : (seed : Seed) (n : ℕ) → n ≤ length seed.slots → group_of seed n ≡ None
group_of_slot seed n h = grind (arith, h)

pub group_of_after : (seed : Seed) (n : ℕ) → length seed.slots < n → slice_get seed.groups (n - length seed.slots - 1) ≡ group_of seed n
group_of_after seed n h = grind (arith, h)
