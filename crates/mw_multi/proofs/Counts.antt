-- Counts of entries.
use Rattle.std.proofs.Common.{◌≡◌, ℕ, zero, suc, ◌+◌, ◌<◌, ◌≤◌, ◌*◌, List, [], ◌∷◌, length, true, Option, Some, None, arith}
use Rattle.std.specs.Prelude.{All, sum_by, slice_get, ◌==◌}
use Rattle.std.proofs.lemmas.List.Sums.{sum_by-cons, sum_by-le, sum_by-le-sum_by}
use Rattle.std.proofs.lemmas.List.Elements.{All-weaker}
use Rattle.mw_multi.specs.World.{Item, PoolEntry}
use Rattle.mw_multi.specs.WorldKept.{copies, has_id, EntryKept, PoolKept}
use Rattle.mw_multi.specs.Joint.{Slot, SlotKept, slot_at, slot_items, item_total, slot_copies}
use Rattle.mw_multi.proofs.Rows.{one_bound}
use Rattle.mw_multi.specs.Bags.{entry_count, entries_count, slot_start, slot_pool, start_count, pool_count, owned_count, member_count}

-- no item has more copies than all entries together
pub entries_bound : (first_item : ℕ) (entries : List PoolEntry) (n : ℕ) → entries_count first_item entries n ≤ sum_by copies entries
entries_bound first_item [] n = omega arith
entries_bound first_item (e ∷ entries) n =
    omega (arith, sum_by-cons (entry_count first_item n) e entries, sum_by-cons copies e entries, one_bound ((first_item + e.item) == n) e.count, entries_bound first_item entries n)

-- ---- a joint's items

-- no more items than the worlds may have
pub items_bound : (slots : List Slot) → All SlotKept slots → item_total slots ≤ 10000 * length slots
items_bound slots kept = let few = sum_by-le slot_items 10000 slots (All-weaker SlotKept (λ s. slot_items s ≤ 10000) (λ s k. k.world.items.count) slots kept) in omega arith

-- entries of a slot's items lie within so many items
pub entries_within : (first_item many size : ℕ) (entries : List PoolEntry) → first_item + many ≤ size → All (λ e. e.item < many) entries → All (λ e. first_item + e.item < size) entries
entries_within first_item many size entries fits within = All-weaker (λ e. e.item < many) (λ e. first_item + e.item < size) (λ e p. omega arith) entries within

-- no more of an item than the entries have together
pub count_bound : (first_item most : ℕ) (entries : List PoolEntry) (n : ℕ) → sum_by copies entries ≤ most → entries_count first_item entries n ≤ most
count_bound first_item most entries n few = omega (arith, entries_bound first_item entries n)

-- an item with an id is there
there : (items : List Item) (i : ℕ) → has_id (slice_get items i) ≡ true → i < length items
there [] i e = cc
there (x ∷ items) zero e = omega arith
there (x ∷ items) (suc i) e = let more = there items i e in omega arith

pub pool_within : (items : List Item) (pool : List PoolEntry) → PoolKept items pool → All (λ e. e.item < length items) pool
pool_within items pool kept = All-weaker (EntryKept items) (λ e. e.item < length items) (λ e k. there items e.item k.item) pool kept.each

-- no more of an item than the slots may begin with
pub start_bound : (slots : List Slot) (n : ℕ) → All SlotKept slots → start_count slots n ≤ 256 * length slots
start_bound slots n kept =
    let few = sum_by-le (slot_start n) 256 slots (All-weaker SlotKept (λ s. slot_start n s ≤ 256) (λ s k. count_bound s.first_item 256 s.start n k.few) slots kept) in omega arith

-- no more of an item than all pools have together
pub pool_bound : (slots : List Slot) (n : ℕ) → pool_count slots n ≤ sum_by slot_copies slots
pool_bound slots n = sum_by-le-sum_by (slot_pool n) slot_copies slots (λ s. entries_bound s.first_item s.pool n)

-- ---- a link's copies for one of its owners

owned_bound : (n : ℕ) (entries : List PoolEntry) (o : Option Slot) → owned_count n entries o ≤ sum_by copies entries
owned_bound n entries None = omega arith
owned_bound n entries (Some s) = entries_bound s.first_item entries n

pub member_bound : (slots : List Slot) (n : ℕ) (entries : List PoolEntry) (number : ℕ) → member_count slots n entries number ≤ sum_by copies entries
member_bound slots n entries number = owned_bound n entries (slot_at slots number)

-- one term more, each at most this
pub one_more : (i most sum next : ℕ) → sum ≤ i * most → next ≤ most → sum + next ≤ (i + 1) * most
one_more i most sum next h n = grind (arith, h, n)
