-- A joint whose slots share items keeps what a joint keeps.
use Rattle.std.proofs.Common.{◌≡◌, ℕ, zero, suc, ◌+◌, ◌-◌, ◌*◌, ◌<◌, ◌≤◌, ◌==◌, ◌∙◌, ap, sym, refl, subst, false, List, [], ◌∷◌, map, length, drop, get_or, set, inl, inr, arith}
use Rattle.std.specs.Prelude.{All, min, sum_by, slice_get, slice_index_or}
use Rattle.std.specs.List.Sorted.{IsStrictlyIncreasing}
use Rattle.std.proofs.lemmas.Bool.{cases_Bool, cases_lt}
use Rattle.std.proofs.lemmas.List.{length-map, length-set, set_past, drop_more}
use Rattle.std.proofs.lemmas.Bool.Decides.{Decides-eqb}
use Rattle.std.proofs.lemmas.List.Sums.{sum_by-cons, sum_by-le, sum_by-set}
use Rattle.std.proofs.lemmas.List.Elements.{All-nil, All-cons, All-weaker}
use Rattle.mw_multi.specs.World.{World, Item, PoolEntry}
use Rattle.mw_multi.specs.WorldKept.{copies, EntryKept}
use Rattle.mw_multi.specs.Numbered.{each_numbered}
use Rattle.mw_multi.specs.PlayersKept.{IsSlotNumber}
use Rattle.mw_multi.specs.Joint.{Slot, Joint, IsJoint, SlotKept, LinkKept, CopiesKept, HasWorld, AreNumbered, slot_at, world_of, first_slot, slot_places, slot_items, place_total, slot_copies, link_copies}
use Rattle.mw_multi.specs.Links.{HasId, entry_copies, copies_in, item_copies, slot_row, pool_rows, row_at, fewer, left_of, taken_from, taken_from_each, shared, left_by_item, left_by_items, shared_copies, Sharing, SharingKept, left_by, link_of, links_of, first_copies, with_left, each_with_left}
use Rattle.mw_multi.proofs.Rows.{one_bound, where_not}
use Rattle.mw_multi.proofs.Shares.{row_total, left_total, least_le, links_total, pools_total}

-- ---- what pools have

-- what these items, the first of which has this number, have in the entries
abbrev counted : ℕ → List Item → List PoolEntry → ℕ
counted k items pool = row_total (each_numbered (item_copies pool) k items)

counted_next : (k : ℕ) (i : Item) (items : List Item) (pool : List PoolEntry) → counted k (i ∷ items) pool ≡ copies_in pool k + counted (suc k) items pool
counted_next k i items pool = sum_by-cons (λ n. n) (copies_in pool k) (each_numbered (item_copies pool) (suc k) items)

counted_cons : (k : ℕ) (items : List Item) (e : PoolEntry) (pool : List PoolEntry) → counted k items (e ∷ pool) ≡ counted k items (e ∷ []) + counted k items pool
counted_cons k [] e pool = refl
counted_cons k (i ∷ items) e pool =
    omega (
      arith,
      counted_next k i items (e ∷ pool),
      counted_next k i items (e ∷ []),
      counted_next k i items pool,
      counted_cons (suc k) items e pool,
      sum_by-cons (entry_copies k) e pool,
      sum_by-cons (entry_copies k) e [],
    )

-- an entry of an earlier item
counted_past : (k : ℕ) (items : List Item) (e : PoolEntry) → e.item < k → counted k items (e ∷ []) ≡ 0
counted_past k [] e h = refl
counted_past k (i ∷ items) e h =
    let differ : (e.item == k) ≡ false = grind (arith, h) in
    omega (arith, counted_next k i items (e ∷ []), counted_past (suc k) items e (omega (arith, h)), sum_by-cons (entry_copies k) e [], where_not (e.item == k) e.count differ)

counted_one : (k : ℕ) (items : List Item) (e : PoolEntry) → counted k items (e ∷ []) ≤ e.count
counted_one k [] e = omega arith
counted_one k (i ∷ items) e = elim (cases_Bool (e.item == k)) [
  | inl here ↦
      let same : e.item ≡ k = (Decides-eqb e.item k).0 here in
      omega (arith, counted_next k i items (e ∷ []), counted_past (suc k) items e (omega (arith, same)), sum_by-cons (entry_copies k) e [], one_bound (e.item == k) e.count)
  | inr other ↦
      omega (arith, counted_next k i items (e ∷ []), counted_one (suc k) items e, sum_by-cons (entry_copies k) e [], where_not (e.item == k) e.count other)
]

counted_all : (k : ℕ) (items : List Item) (pool : List PoolEntry) → counted k items pool ≤ sum_by copies pool
counted_all k [] [] = omega arith
counted_all k (i ∷ items) [] = omega (arith, counted_next k i items [], counted_all (suc k) items [])
counted_all k items (e ∷ pool) = omega (arith, counted_cons k items e pool, counted_one k items e, counted_all k items pool, sum_by-cons copies e pool)

-- a pool has at most 10,000 copies, and those of all slots together
row_few : (s : Slot) → SlotKept s → row_total (slot_row s) ≤ 10000
row_few s kept = omega (arith, counted_all 0 s.world.items s.world.pool, kept.world.pool.together)

pub rows_few : (slots : List Slot) → All SlotKept slots → left_total (pool_rows slots) ≤ 10000 * length slots
rows_few [] kept = omega arith
rows_few (s ∷ slots) kept =
    omega (arith, row_few s (kept 0 s (omega arith)), rows_few slots (λ i d h. kept (suc i) d (omega (arith, h))), sum_by-cons row_total (slot_row s) (pool_rows slots))

-- ---- what slots keep

first_le : (row : List ℕ) (pool : List PoolEntry) → sum_by copies (first_copies row pool) ≤ sum_by copies pool
first_le row [] = omega arith
first_le row (e ∷ pool) =
    let first : PoolEntry = record { item = e.item; count = min e.count (row_at row e.item) } in
    omega (arith, first_le (fewer e.item e.count row) pool, sum_by-cons copies e pool, sum_by-cons copies first (first_copies (fewer e.item e.count row) pool))

first_kept : (items : List Item) (row : List ℕ) (pool : List PoolEntry) → All (EntryKept items) pool → All (CopiesKept items) (first_copies row pool)
first_kept items row [] kept = All-nil (CopiesKept items)
first_kept items row (e ∷ pool) kept =
    let entry : EntryKept items e = kept 0 e (omega arith) in
    All-cons (CopiesKept items) record { item = e.item; count = min e.count (row_at row e.item) } (first_copies (fewer e.item e.count row) pool)
    (record { item = entry.item; few = omega (arith, entry.high) }) (first_kept items (fewer e.item e.count row) pool (λ i d h. kept (suc i) d (omega (arith, h))))

pub left_kept : (row : List ℕ) (s : Slot) → SlotKept s → SlotKept (with_left row s)
left_kept row s kept = record {
  world = kept.world;
  local_items = kept.local_items;
  non_local_items = kept.non_local_items;
  exclude_locations = kept.exclude_locations;
  priority_locations = kept.priority_locations;
  start = kept.start;
  few = kept.few;
  pool = record {
    each = first_kept s.world.items row s.world.pool kept.world.pool.each;
    together = omega (arith, first_le row s.world.pool, kept.world.pool.together);
  };
}

pub each_kept : (left : List (List ℕ)) (slots : List Slot) → All SlotKept slots → All SlotKept (each_with_left left slots)
each_kept left [] kept = All-nil SlotKept
each_kept [] (s ∷ slots) kept = kept
each_kept (row ∷ left) (s ∷ slots) kept =
    All-cons SlotKept (with_left row s) (each_with_left left slots) (left_kept row s (kept 0 s (omega arith))) (each_kept left slots (λ i d h. kept (suc i) d (omega (arith, h))))

pub each_numbered_left : (place item : ℕ) (left : List (List ℕ)) (slots : List Slot) → AreNumbered place item slots → AreNumbered place item (each_with_left left slots)
each_numbered_left place item left [] n = tt
each_numbered_left place item [] (s ∷ slots) n = n
each_numbered_left place item (row ∷ left) (s ∷ slots) n = (n.0, n.1, each_numbered_left (place + slot_places s) (item + slot_items s) left slots n.2)

pub each_length : (left : List (List ℕ)) (slots : List Slot) → length (each_with_left left slots) ≡ length slots
each_length left [] = refl
each_length [] (s ∷ slots) = refl
each_length (row ∷ left) (s ∷ slots) = ap suc (each_length left slots)

pub each_places : (left : List (List ℕ)) (slots : List Slot) → place_total (each_with_left left slots) ≡ place_total slots
each_places left [] = refl
each_places [] (s ∷ slots) = refl
each_places (row ∷ left) (s ∷ slots) = omega (arith, each_places left slots, sum_by-cons slot_places s slots, sum_by-cons slot_places (with_left row s) (each_with_left left slots))

-- the slots' tables are the same
world_at_index : (left : List (List ℕ)) (slots : List Slot) (k : ℕ) → world_of (slice_get (each_with_left left slots) k) ≡ world_of (slice_get slots k)
world_at_index left [] k = refl
world_at_index [] (s ∷ slots) k = refl
world_at_index (row ∷ left) (s ∷ slots) zero = refl
world_at_index (row ∷ left) (s ∷ slots) (suc k) = world_at_index left slots k

pub same_world : (left : List (List ℕ)) (slots : List Slot) (number : ℕ) → world_of (slot_at (each_with_left left slots) number) ≡ world_of (slot_at slots number)
same_world left slots zero = refl
same_world left slots (suc k) = world_at_index left slots k

-- ---- what links keep

abbrev Few : List ℕ → Type 0
Few row = row_total row ≤ 10000

few_at : (left : List (List ℕ)) (k : ℕ) → All Few left → Few (get_or left k [])
few_at [] k few = omega arith
few_at (row ∷ left) zero few = few 0 row (omega arith)
few_at (row ∷ left) (suc k) few = few_at left k (λ i d h. few (suc i) d (omega (arith, h)))

few_set : (left : List (List ℕ)) (k : ℕ) (row : List ℕ) → All Few left → Few row → All Few (set left k row)
few_set [] k row few h = All-nil Few
few_set (r ∷ left) zero row few h = All-cons Few row left h (λ i d l. few (suc i) d (omega (arith, l)))
few_set (r ∷ left) (suc k) row few h = All-cons Few r (set left k row) (few 0 r (omega arith)) (few_set left k row (λ i d l. few (suc i) d (omega (arith, l))) h)

fewer_le : (item n : ℕ) (row : List ℕ) → row_total (fewer item n row) ≤ row_total row
fewer_le item n row = elim (cases_lt item (length row)) [
  | inl there ↦ omega (arith, sum_by-set (λ m. m) row item (row_at row item - n) 0 there)
  | inr past ↦ omega (arith, ap row_total (set_past row item (row_at row item - n) (omega (arith, past))))
]

few_taken : (left : List (List ℕ)) (item n m : ℕ) → All Few left → All Few (taken_from left item n m)
few_taken left item n zero few = few
few_taken left item n (suc k) few = few_set left k (fewer item n (slice_index_or left k [])) few (omega (arith, fewer_le item n (slice_index_or left k []), few_at left k few))

few_taken_each : (left : List (List ℕ)) (item n : ℕ) (ms : List ℕ) → All Few left → All Few (taken_from_each left item n ms)
few_taken_each left item n [] few = few
few_taken_each left item n (m ∷ ms) few = few_taken_each (taken_from left item n m) item n ms (few_taken left item n m few)

row_at_le : (row : List ℕ) (item : ℕ) → row_at row item ≤ row_total row
row_at_le [] item = omega arith
row_at_le (n ∷ row) zero = omega (arith, sum_by-cons (λ m. m) n row)
row_at_le (n ∷ row) (suc i) = omega (arith, sum_by-cons (λ m. m) n row, row_at_le row i)

left_few : (left : List (List ℕ)) (item m : ℕ) → All Few left → left_of left item m ≤ 10000
left_few left item zero few = omega arith
left_few left item (suc k) few = omega (arith, row_at_le (slice_index_or left k []) item, few_at left k few)

shared_few : (left : List (List ℕ)) (members : List ℕ) (item : ℕ) → All Few left → shared left members item ≤ 10000
shared_few left [] item few = omega arith
shared_few left (m ∷ ms) item few = omega (arith, least_le (left_of left item m) (map (left_of left item) ms), left_few left item m few)

few_after : (left : List (List ℕ)) (members items : List ℕ) → All Few left → All Few (left_by_items left members items)
few_after left members [] few = few
few_after left members (i ∷ is) few = few_after (left_by_item left members i) members is (few_taken_each left i (shared left members i) members few)

copies_kept : (table : List Item) (left : List (List ℕ)) (members items : List ℕ) → All Few left → All (HasId table) items → All (CopiesKept table) (shared_copies left members items)
copies_kept table left members [] few ids = All-nil (CopiesKept table)
copies_kept table left members (i ∷ is) few ids =
    All-cons (CopiesKept table) record { item = i; count = shared left members i } (shared_copies (left_by_item left members i) members is)
    (record { item = ids 0 i (omega arith); few = shared_few left members i few })
    (copies_kept table (left_by_item left members i) members is (few_taken_each left i (shared left members i) members few) (λ k d h. ids (suc k) d (omega (arith, h))))

same_first : (rows : List (List ℕ)) (slots : List Slot) (members : List ℕ) → world_of (first_slot (each_with_left rows slots) members) ≡ world_of (first_slot slots members)
same_first rows slots [] = refl
same_first rows slots (m ∷ ms) = same_world rows slots m

link_kept : (rows left : List (List ℕ)) (slots : List Slot) (l : Sharing) → All Few left → SharingKept slots l → LinkKept (each_with_left rows slots) (link_of left l)
link_kept rows left slots l few kept =
    let first = same_first rows slots l.members in
    record {
      several = kept.several;
      ascend = kept.ascend;
      members = subst (λ n. All (IsSlotNumber n) l.members) (sym (each_length rows slots)) kept.members;
      world = All-weaker (HasWorld slots (world_of (first_slot slots l.members))) (HasWorld (each_with_left rows slots) (world_of (first_slot (each_with_left rows slots) l.members)))
          (λ m h. same_world rows slots m ∙ h ∙ sym first) l.members kept.world;
      copies = subst (λ (w : World). All (CopiesKept w.items) (shared_copies left l.members l.items)) (sym first)
          (copies_kept (world_of (first_slot slots l.members)).items left l.members l.items few kept.items);
    }

links_kept : (rows left : List (List ℕ)) (slots : List Slot) (ls : List Sharing) → All Few left → All (SharingKept slots) ls → All (LinkKept (each_with_left rows slots)) (links_of left ls)
links_kept rows left slots [] few kept = All-nil (LinkKept (each_with_left rows slots))
links_kept rows left slots (l ∷ ls) few kept =
    All-cons (LinkKept (each_with_left rows slots)) (link_of left l) (links_of (left_by_items left l.members l.items) ls)
    (link_kept rows left slots l few (kept 0 l (omega arith)))
    (links_kept rows (left_by_items left l.members l.items) slots ls (few_after left l.members l.items few) (λ i d h. kept (suc i) d (omega (arith, h))))

-- ---- the whole

links_length : (left : List (List ℕ)) (ls : List Sharing) → length (links_of left ls) ≡ length ls
links_length left [] = refl
links_length left (l ∷ ls) = ap suc (links_length (left_by_items left l.members l.items) ls)

taken_length : (left : List (List ℕ)) (item n m : ℕ) → length (taken_from left item n m) ≡ length left
taken_length left item n zero = refl
taken_length left item n (suc k) = length-set left k (fewer item n (slice_index_or left k []))

taken_each_length : (left : List (List ℕ)) (item n : ℕ) (ms : List ℕ) → length (taken_from_each left item n ms) ≡ length left
taken_each_length left item n [] = refl
taken_each_length left item n (m ∷ ms) = taken_each_length (taken_from left item n m) item n ms ∙ taken_length left item n m

items_length : (left : List (List ℕ)) (members items : List ℕ) → length (left_by_items left members items) ≡ length left
items_length left members [] = refl
items_length left members (i ∷ is) = items_length (left_by_item left members i) members is ∙ taken_each_length left i (shared left members i) members

pub left_length : (left : List (List ℕ)) (ls : List Sharing) → length (left_by left ls) ≡ length left
left_length left [] = refl
left_length left (l ∷ ls) = left_length (left_by_items left l.members l.items) ls ∙ items_length left l.members l.items

rows_length : (slots : List Slot) → length (pool_rows slots) ≡ length slots
rows_length slots = length-map slots slot_row

-- as many rows are left as there are slots
pub rows_left : (slots : List Slot) (ls : List Sharing) → length (left_by (pool_rows slots) ls) ≡ length slots
rows_left slots ls = left_length (pool_rows slots) ls ∙ rows_length slots

all_few : (slots : List Slot) → All SlotKept slots → All Few (pool_rows slots)
all_few [] kept = All-nil Few
all_few (s ∷ slots) kept = All-cons Few (slot_row s) (pool_rows slots) (row_few s (kept 0 s (omega arith))) (all_few slots (λ i d h. kept (suc i) d (omega (arith, h))))

-- slots and what they share make a joint
pub joint_kept : (j : Joint) (slots : List Slot) (ls : List Sharing) → j.slots ≡ each_with_left (left_by (pool_rows slots) ls) slots → j.links ≡ links_of (pool_rows slots) ls
    → 1 ≤ length slots → length slots + length ls ≤ 1024 → All SlotKept slots → AreNumbered 0 0 slots → place_total slots ≤ 200000 → All (SharingKept slots) ls → IsJoint j
joint_kept j slots ls slots_are links_are some few kept numbered places sharings =
    let rows = left_by (pool_rows slots) ls in
    let many = ap length slots_are ∙ each_length rows slots in
    let linked = ap length links_are ∙ links_length (pool_rows slots) ls in
    let pools = pools_total rows slots (rows_left slots ls) in
    let shares = links_total (pool_rows slots) ls (All-weaker (SharingKept slots) (λ l. IsStrictlyIncreasing l.members) (λ l k. k.ascend) ls sharings) in
    record {
      some = omega (arith, some, many);
      few = omega (arith, few, many);
      each = subst (All SlotKept) (sym slots_are) (each_kept rows slots kept);
      numbered = subst (AreNumbered 0 0) (sym slots_are) (each_numbered_left 0 0 rows slots numbered);
      places = omega (arith, places, ap place_total slots_are, each_places rows slots);
      few_receivers = omega (arith, few, many, linked);
      links = subst (λ ss. All (LinkKept ss) j.links) (sym slots_are) (subst (All (LinkKept (each_with_left rows slots))) (sym links_are) (links_kept rows (pool_rows slots) slots ls (all_few slots kept) sharings));
      together = omega (arith, many, ap (sum_by slot_copies) slots_are, ap (sum_by link_copies) links_are, pools, shares, rows_few slots kept);
    }

own_copies : (slots : List Slot) → All SlotKept slots → sum_by slot_copies slots ≤ 10000 * length slots
own_copies slots kept = let few = sum_by-le slot_copies 10000 slots (All-weaker SlotKept (λ s. slot_copies s ≤ 10000) (λ s k. k.pool.together) slots kept) in omega arith

-- and so do slots that share nothing
pub unlinked_kept : (j : Joint) → j.links ≡ [] → 1 ≤ length j.slots → length j.slots ≤ 1024 → All SlotKept j.slots → AreNumbered 0 0 j.slots → place_total j.slots ≤ 200000 → IsJoint j
unlinked_kept j none some few kept numbered places = record {
  some = some;
  few = few;
  each = kept;
  numbered = numbered;
  places = places;
  few_receivers = omega (arith, few, ap length none);
  links = subst (All (LinkKept j.slots)) (sym none) (All-nil (LinkKept j.slots));
  together = omega (arith, own_copies j.slots kept, ap (sum_by link_copies) none);
}

-- ---- one slot more

pub one_left : (left : List (List ℕ)) (k : ℕ) (s : Slot) (slots : List Slot) → k < length left
    → each_with_left (drop k left) (s ∷ slots) ≡ with_left (slice_index_or left k []) s ∷ each_with_left (drop (k + 1) left) slots
one_left left k s slots h = ap (λ rows. each_with_left rows (s ∷ slots)) (drop_more left k [] h)
