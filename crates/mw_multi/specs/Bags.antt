-- How many of each item there are, by the items' numbers over all slots.
use Rattle.std.specs.Prelude.{◌≡◌, ℕ, ◌+◌, ◌==◌, List, Option, Some, None, length, sum_by, if◌then◌else◌}
use Rattle.mw_rules.specs.Holds.{bag_of}
use Rattle.mw_multi.specs.World.{PoolEntry}
use Rattle.mw_multi.specs.Joint.{Slot, Link, Joint, slot_at, item_total}

-- what an entry of the slot counts for the item of this number
abbrev pub entry_count : ℕ → ℕ → PoolEntry → ℕ
entry_count first_item n e = if (first_item + e.item) == n then e.count else 0

-- what entries of a slot count for it
abbrev pub entries_count : ℕ → List PoolEntry → ℕ → ℕ
entries_count first_item entries n = sum_by (entry_count first_item n) entries

-- how many of it a slot begins with, and how many its pool has
abbrev pub slot_start : ℕ → Slot → ℕ
slot_start n s = entries_count s.first_item s.start n

abbrev pub slot_pool : ℕ → Slot → ℕ
slot_pool n s = entries_count s.first_item s.pool n

-- how many of it all slots begin with
abbrev pub start_count : List Slot → ℕ → ℕ
start_count slots n = sum_by (slot_start n) slots

-- how many of it the pools of all slots have
abbrev pub pool_count : List Slot → ℕ → ℕ
pool_count slots n = sum_by (slot_pool n) slots

-- how many of it some copies are for one of their owners, for all, and what all links have
abbrev pub owned_count : ℕ → List PoolEntry → Option Slot → ℕ
owned_count n copies None = 0
owned_count n copies (Some s) = entries_count s.first_item copies n

abbrev pub member_count : List Slot → ℕ → List PoolEntry → ℕ → ℕ
member_count slots n copies number = owned_count n copies (slot_at slots number)

abbrev pub link_count : List Slot → ℕ → Link → ℕ
link_count slots n l = sum_by (member_count slots n l.copies) l.members

abbrev pub links_count : Joint → ℕ → ℕ
links_count joint n = sum_by (link_count joint.slots n) joint.links

-- everything in hand: what all slots begin with, all copies of their pools, and those of links, once for each owner
abbrev pub everything : Joint → ℕ → ℕ
everything joint n = start_count joint.slots n + pool_count joint.slots n + links_count joint n

-- these are counts of all items of the slots, of each item as many as this
pub record IsBagOf (slots : List Slot) (count : ℕ → ℕ) (bag : List ℕ) : Type 0 where
  pub size : length bag ≡ item_total slots
  pub counts : (n : ℕ) → bag_of bag n ≡ count n
