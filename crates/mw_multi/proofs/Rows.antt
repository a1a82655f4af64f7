-- Rows of how many copies of each item a pool has.
use Rattle.std.proofs.Common.{◌≡◌, ℕ, suc, ◌+◌, ◌<◌, ◌≤◌, ◌==◌, ◌∙◌, ap, ap₂, sym, refl, List, [], ◌∷◌, ◌++◌, length, get_or, set, take, Bool, true, false, inl, inr, arith, add-one}
use Rattle.std.specs.Prelude.{sum_by, if◌then◌else◌}
use Rattle.std.proofs.Math.Seq.{take-suc}
use Rattle.std.proofs.lemmas.Bool.{cases_Bool}
use Rattle.std.proofs.lemmas.Bool.Decides.{Decides-eqb}
use Rattle.std.proofs.lemmas.List.{get_or-set_same, get_or-set_other}
use Rattle.std.proofs.lemmas.List.Sums.{sum_by-cons, sum_by-append}
use Rattle.mw_multi.specs.World.{Item, PoolEntry}
use Rattle.mw_multi.specs.WorldKept.{copies}
use Rattle.mw_multi.specs.Numbered.{each_numbered}
use Rattle.mw_multi.specs.Links.{row_at, entry_copies, copies_in, item_copies}

where_so : (b : Bool) (n : ℕ) → b ≡ true → (if b then n else 0) ≡ n
where_so true n e = refl
where_so false n e = cc

pub where_not : (b : Bool) (n : ℕ) → b ≡ false → (if b then n else 0) ≡ 0
where_not true n e = cc
where_not false n e = refl

pub one_bound : (b : Bool) (n : ℕ) → (if b then n else 0) ≤ n
one_bound true n = omega arith
one_bound false n = omega arith

-- no item has more copies than all entries together
pub copies_le : (pool : List PoolEntry) (n : ℕ) → copies_in pool n ≤ sum_by copies pool
copies_le [] n = omega arith
copies_le (e ∷ pool) n = omega (arith, sum_by-cons (entry_copies n) e pool, sum_by-cons copies e pool, one_bound (e.item == n) e.count, copies_le pool n)

copies_push : (pool : List PoolEntry) (e : PoolEntry) (n : ℕ) → copies_in (pool ++ e ∷ []) n ≡ copies_in pool n + entry_copies n e
copies_push pool e n = omega (arith, sum_by-append (entry_copies n) pool (e ∷ []), sum_by-cons (entry_copies n) e [])

-- one entry more
pub row_more : (row : List ℕ) (pool : List PoolEntry) (k : ℕ) (e : PoolEntry) (n : ℕ) → k < length pool → e ≡ get_or pool k e → e.item < length row
    → row_at row e.item ≡ copies_in (take k pool) e.item → row_at row n ≡ copies_in (take k pool) n
    → row_at (set row e.item (row_at row e.item + e.count)) n ≡ copies_in (take (k + 1) pool) n
row_more row pool k e n h is there here before =
    let more : take (k + 1) pool ≡ take k pool ++ e ∷ [] = (rw (add-one) (take-suc pool k e h)) ∙ ap (λ x. take k pool ++ x ∷ []) (sym is) in
    let after : copies_in (take (k + 1) pool) n ≡ copies_in (take k pool) n + entry_copies n e = ap (λ p. copies_in p n) more ∙ copies_push (take k pool) e n in
    elim (cases_Bool (e.item == n)) [
      | inl same ↦
          let equal : e.item ≡ n = (Decides-eqb e.item n).0 same in
          let read : row_at (set row e.item (row_at row e.item + e.count)) n ≡ row_at row e.item + e.count =
          ap (λ m. row_at (set row e.item (row_at row e.item + e.count)) m) (sym equal) ∙ get_or-set_same row e.item (row_at row e.item + e.count) 0 there in
          omega (arith, read, after, here, where_so (e.item == n) e.count same, ap (λ m. copies_in (take k pool) m) equal)
      | inr other ↦
          let read : row_at (set row e.item (row_at row e.item + e.count)) n ≡ row_at row n =
          get_or-set_other row e.item n (row_at row e.item + e.count) 0 (λ same. let equal = (Decides-eqb e.item n).1 (sym same) in cc) in
          omega (arith, read, after, before, where_not (e.item == n) e.count other)
    ]

-- a row that has for each item what the pool has
pub row_is : (pool : List PoolEntry) (k : ℕ) (items : List Item) (row : List ℕ) → length row ≡ length items → ((i : ℕ) → row_at row i ≡ copies_in pool (k + i)) → row ≡ each_numbered (item_copies pool) k items
row_is pool k [] [] size each = refl
row_is pool k [] (x ∷ row) size each = absurd (omega (arith, size))
row_is pool k (i ∷ items) [] size each = absurd (omega (arith, size))
row_is pool k (i ∷ items) (x ∷ row) size each =
    let at : k + 0 ≡ k = omega arith in
    ap₂ (λ a b. a ∷ b) (each 0 ∙ ap (copies_in pool) at)
    (row_is pool (suc k) items row (omega (arith, size)) (λ j. let next : k + suc j ≡ suc k + j = omega arith in each (suc j) ∙ ap (copies_in pool) next))
