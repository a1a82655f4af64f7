-- What links take from pools is what their members have together.
use Rattle.std.proofs.Common.{◌≡◌, ◌≢◌, ℕ, zero, suc, ◌+◌, ◌-◌, ◌*◌, ◌<◌, ◌≤◌, ◌∙◌, ap, refl, subst, List, [], ◌∷◌, map, length, get_or, set, inl, inr, arith}
use Rattle.std.specs.Prelude.{All, min, sum_by, slice_index_or}
use Rattle.std.specs.List.Sorted.{IsStrictlyIncreasing}
use Rattle.std.proofs.lemmas.Bool.{cases_lt}
use Rattle.std.proofs.lemmas.List.{get_or_past, get_or-set_other, set_past}
use Rattle.std.proofs.lemmas.List.Sums.{sum_by-cons, sum_by-set}
use Rattle.std.proofs.lemmas.List.Elements.{All-nil, All-cons, All-weaker}
use Rattle.mw_multi.specs.World.{PoolEntry}
use Rattle.mw_multi.specs.WorldKept.{copies}
use Rattle.mw_multi.specs.Joint.{Slot, link_copies, slot_copies}
use Rattle.mw_multi.specs.Links.{row_at, fewer, left_of, taken_from, taken_from_each, least, shared, left_by_item, left_by_items, shared_copies, Sharing, left_by, link_of, links_of, first_copies, with_left, each_with_left}

-- ---- how much is left

abbrev itself : ℕ → ℕ
itself n = n

abbrev pub row_total : List ℕ → ℕ
row_total row = sum_by itself row

abbrev pub left_total : List (List ℕ) → ℕ
left_total left = sum_by row_total left

pub fewer_total : (item n : ℕ) (row : List ℕ) → n ≤ row_at row item → row_total (fewer item n row) + n ≡ row_total row
fewer_total item n row h = elim (cases_lt item (length row)) [
  | inl there ↦ omega (arith, h, sum_by-set itself row item (row_at row item - n) 0 there)
  | inr past ↦
      let none : row_at row item ≡ 0 = get_or_past row item 0 (omega (arith, past)) in
      omega (arith, h, none, ap row_total (set_past row item (row_at row item - n) (omega (arith, past))))
]

taken_total : (left : List (List ℕ)) (item n m : ℕ) → n ≤ left_of left item m → left_total (taken_from left item n m) + n ≡ left_total left
taken_total left item n zero h = omega (arith, h)
taken_total left item n (suc k) h = elim (cases_lt k (length left)) [
  | inl there ↦ omega (arith, fewer_total item n (slice_index_or left k []) h, sum_by-set row_total left k (fewer item n (slice_index_or left k [])) [] there)
  | inr past ↦
      let row : slice_index_or left k [] ≡ [] = get_or_past left k [] (omega (arith, past)) in
      let none : row_at (slice_index_or left k []) item ≡ 0 = ap (λ r. row_at r item) row in
      omega (arith, h, none, ap left_total (set_past left k (fewer item n (slice_index_or left k [])) (omega (arith, past))))
]

-- taking from one slot leaves the others
taken_other : (left : List (List ℕ)) (item n m x : ℕ) → m < x → left_of (taken_from left item n m) item x ≡ left_of left item x
taken_other left item n zero x h = refl
taken_other left item n (suc k) zero h = absurd (omega (arith, h))
taken_other left item n (suc k) (suc j) h =
    let differ : j ≢ k = (λ same. absurd (omega (arith, h, same))) in
    ap (λ row. row_at row item) (get_or-set_other left k j (fewer item n (slice_index_or left k [])) [] differ)

-- each number is above the one before it
abbrev Climbs : ℕ → List ℕ → Type 0
Climbs m [] = Unit {0}
Climbs m (x ∷ xs) = (m < x) × Climbs x xs

climbs : (m : ℕ) (xs : List ℕ) → IsStrictlyIncreasing (m ∷ xs) → Climbs m xs
climbs m [] rise = tt
climbs m (x ∷ xs) rise = (
  rise 0 (omega arith),
  climbs x xs (λ k h. let next : suc k + 1 ≡ suc (k + 1) = omega arith in subst (λ n. get_or (m ∷ x ∷ xs) (suc k) 0 < get_or (m ∷ x ∷ xs) n 0) next (rise (suc k) (omega (arith, h)))),
)

higher : (m : ℕ) (xs : List ℕ) → Climbs m xs → All (λ x. m < x) xs
higher m [] c = All-nil (λ x. m < x)
higher m (x ∷ xs) c = All-cons (λ y. m < y) x xs c.0 (All-weaker (λ y. x < y) (λ y. m < y) (λ y h. omega (arith, h, c.0)) xs (higher x xs c.1))

-- each of these has so many left
abbrev Have : List (List ℕ) → ℕ → ℕ → List ℕ → Type 0
Have left item n [] = Unit {0}
Have left item n (m ∷ ms) = (n ≤ left_of left item m) × Have left item n ms

still_have : (left : List (List ℕ)) (item n m : ℕ) (xs : List ℕ) → All (λ x. m < x) xs → Have left item n xs → Have (taken_from left item n m) item n xs
still_have left item n m [] above have = tt
still_have left item n m (x ∷ xs) above have = (
  omega (arith, have.0, taken_other left item n m x (above 0 x (omega arith))),
  still_have left item n m xs (λ i d h. above (suc i) d (omega (arith, h))) have.1,
)

each_total : (left : List (List ℕ)) (item n m : ℕ) (xs : List ℕ) → Climbs m xs → Have left item n (m ∷ xs) → left_total (taken_from_each left item n (m ∷ xs)) + (n + length xs * n) ≡ left_total left
each_total left item n m [] c have = omega (arith, taken_total left item n m have.0)
each_total left item n m (x ∷ xs) c have =
    let later = each_total (taken_from left item n m) item n x xs c.1 (still_have left item n m (x ∷ xs) (higher m (x ∷ xs) c) have.1) in
    omega (arith, taken_total left item n m have.0, later)

-- ---- what is shared

pub least_le : (n : ℕ) (xs : List ℕ) → least n xs ≤ n
least_le n [] = omega arith
least_le n (x ∷ xs) = omega (arith, least_le (min n x) xs)

least_have : (left : List (List ℕ)) (item n : ℕ) (ms : List ℕ) → Have left item (least n (map (left_of left item) ms)) ms
least_have left item n [] = tt
least_have left item n (m ∷ ms) = (
  omega (arith, least_le (min n (left_of left item m)) (map (left_of left item) ms)),
  least_have left item (min n (left_of left item m)) ms,
)

item_total_left : (left : List (List ℕ)) (members : List ℕ) (item : ℕ) → IsStrictlyIncreasing members → left_total (left_by_item left members item) + length members * shared left members item ≡ left_total left
item_total_left left [] item rise = omega arith
item_total_left left (m ∷ ms) item rise =
    let n = shared left (m ∷ ms) item in
    omega (arith, each_total left item n m ms (climbs m ms rise) (least_le (left_of left item m) (map (left_of left item) ms), least_have left item (left_of left item m) ms))

items_total_left : (left : List (List ℕ)) (members items : List ℕ) → IsStrictlyIncreasing members
    → left_total (left_by_items left members items) + length members * sum_by copies (shared_copies left members items) ≡ left_total left
items_total_left left members [] rise = omega arith
items_total_left left members (i ∷ is) rise =
    let rest = items_total_left (left_by_item left members i) members is rise in
    let n = shared left members i in
    let later = shared_copies (left_by_item left members i) members is in
    let whole : sum_by copies (shared_copies left members (i ∷ is)) ≡ n + sum_by copies later = sum_by-cons copies record { item = i; count = n } later in
    omega (arith, item_total_left left members i rise, rest, ap (λ k. length members * k) whole)

-- what links have, each copy counted for each member, left the pools
pub links_total : (left : List (List ℕ)) (ls : List Sharing) → All (λ l. IsStrictlyIncreasing l.members) ls → left_total (left_by left ls) + sum_by link_copies (links_of left ls) ≡ left_total left
links_total left [] rise = omega arith
links_total left (l ∷ ls) rise =
    let next = left_by_items left l.members l.items in
    omega (
      arith,
      items_total_left left l.members l.items (rise 0 l (omega arith)),
      links_total next ls (λ i d h. rise (suc i) d (omega (arith, h))),
      sum_by-cons link_copies (link_of left l) (links_of next ls),
    )

-- ---- pools

-- where a row has as many as it's asked for at most
fewer_all : (row : List ℕ) (item n : ℕ) → row_at row item ≤ n → row_total (fewer item n row) + row_at row item ≡ row_total row
fewer_all row item n h =
    let same : row_at row item - n ≡ row_at row item - row_at row item = omega (arith, h) in
    ap (λ k. row_total (set row item k) + row_at row item) same ∙ fewer_total item (row_at row item) row (omega arith)

-- the first copies of a pool are no more than the row has
pub first_total : (row : List ℕ) (pool : List PoolEntry) → sum_by copies (first_copies row pool) ≤ row_total row
first_total row [] = omega arith
first_total row (e ∷ es) = elim (cases_lt (row_at row e.item) e.count) [
  | inl fewer_left ↦ omega (arith, fewer_left, first_total (fewer e.item e.count row) es, fewer_all row e.item e.count (omega (arith, fewer_left)), sum_by-cons copies record { item = e.item; count = min e.count (row_at row e.item) } (first_copies (fewer e.item e.count row) es))
  | inr enough ↦ omega (arith, enough, first_total (fewer e.item e.count row) es, fewer_total e.item e.count row (omega (arith, enough)), sum_by-cons copies record { item = e.item; count = min e.count (row_at row e.item) } (first_copies (fewer e.item e.count row) es))
]

pub pools_total : (left : List (List ℕ)) (slots : List Slot) → length left ≡ length slots → sum_by slot_copies (each_with_left left slots) ≤ left_total left
pools_total [] [] h = omega arith
pools_total [] (s ∷ slots) h = absurd (omega (arith, h))
pools_total (row ∷ left) [] h = absurd (omega (arith, h))
pools_total (row ∷ left) (s ∷ slots) h =
    omega (
      arith,
      first_total row s.world.pool,
      pools_total left slots (omega (arith, h)),
      sum_by-cons slot_copies (with_left row s) (each_with_left left slots),
      sum_by-cons row_total row left,
    )
