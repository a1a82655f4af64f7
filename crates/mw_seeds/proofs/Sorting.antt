-- What is sorted, and has no two equal keys, ascends strictly.
use Rattle.std.proofs.Common.{◌≡◌, ◌+◌, ◌&&◌, ◌==◌, ℕ, suc, List, [], ◌∷◌, Bool, true, false, map, slice_index_or, bytes_eq, nat_cmp, int_eq, is_eq, is_lt, Ordering, Less, Equal, Greater, IsSortedBy, IsPermutation, refl, sym, ap, ap₂, subst, ◌∙◌, arith}
use Rattle.std.specs.Cmp.{IsTotalOrder}
use Rattle.std.specs.Cmp.Lexicographic.{slice_cmp}
use Rattle.std.specs.List.{IsDistinct}
use Rattle.std.specs.Ordering.{ordering_reverse}
use Rattle.std.proofs.lemmas.Map.Text.{is_eq-slice_cmp}
use Rattle.std.proofs.lemmas.Cmp.{int_eq_equiv, nat_eq_equiv, nat_list_eq_equiv, nat_list_cmp_total}
use Rattle.std.proofs.lemmas.List.Sorted.{IsPermutation-map}
use Rattle.std.proofs.lemmas.Map.Keys.{IsDistinct-IsPermutation}
use Rattle.mw_model.specs.Seed.{Game, NamedId, Held}
use Rattle.mw_multi.specs.Names.{NamesDiffer}
use Rattle.mw_model.specs.Ascending.{Ascend, ComesBefore, NamesAscend}
use Rattle.mw_multidata.specs.SeedKept.{entry_name, game_name, held_cmp}
use Rattle.mw_multidata.proofs.NamesKept.{held_total}
use Rattle.mw_seeds.specs.Keys.{Key, as_held}
use Rattle.mw_seeds.specs.SeedFile.{IsTable}

tail_sorted : {X : Type 0} (lt : X → X → Bool) (x : X) (xs : List X) → IsSortedBy lt (x ∷ xs) → IsSortedBy lt xs
tail_sorted lt x xs s k d a b =
    let at : suc k + 1 ≡ suc (k + 1) = omega arith in
    subst (λ n. lt (slice_index_or (x ∷ xs) n d) (slice_index_or xs k d) ≡ false) at (s (suc k) d (omega arith) (omega (arith, b)))

module _ {K : Type 0} (cmp : K → K → Ordering) (total : IsTotalOrder cmp) (e : K → K → Bool) (same : (a b : K) → cmp a b ≡ Equal → e a b ≡ true) where
  by_case : (a b : K) (o : Ordering) → cmp b a ≡ o → is_lt o ≡ false → e a b ≡ false → cmp a b ≡ Less
  by_case a b Less is s d = cc
  by_case a b Equal is s d =
      let equal : cmp a b ≡ Equal = total.antisymm a b ∙ ap ordering_reverse is in
      let tied : e a b ≡ true = same a b equal in
      cc
  by_case a b Greater is s d = total.antisymm a b ∙ ap ordering_reverse is

  through : (a b : K) (ks : List K) → cmp a b ≡ Less → ComesBefore cmp b ks → ComesBefore cmp a ks
  through a b [] l h = tt
  through a b (k ∷ ks) l h = (total.trans a b k l h.0, through a b ks l h.1)

  module _ {X : Type 0} (key : X → K) where
    pub sorted_ascends : (xs : List X) → IsSortedBy (λ a b. is_lt (cmp (key a) (key b))) xs → IsDistinct e (map key xs) → Ascend cmp (map key xs)
    unfolding IsDistinct
    sorted_ascends [] s d = tt
    sorted_ascends (x ∷ []) s d = (tt, tt)
    sorted_ascends (x ∷ y ∷ ys) s d =
        let later : Ascend cmp (map key (y ∷ ys)) = sorted_ascends (y ∷ ys) (tail_sorted (λ a b. is_lt (cmp (key a) (key b))) x (y ∷ ys) s) d.1 in
        let less : cmp (key x) (key y) ≡ Less = by_case (key x) (key y) (cmp (key y) (key x)) refl (s 0 x (omega arith) (omega arith)) d.0.0 in
        ((less, through (key x) (key y) (map key ys) less later.0), later)

-- ---- names

names_flip : (a b : List ℕ) → bytes_eq a b ≡ bytes_eq b a
names_flip a b = nat_list_eq_equiv.symm a b

pub names_same : (a b : List ℕ) → slice_cmp nat_cmp a b ≡ Equal → bytes_eq a b ≡ true
names_same a b h = sym (is_eq-slice_cmp a b) ∙ ap is_eq h

-- what is sorted by name, of entries whose names differ
pub table_sorted : (entries table : List NamedId) → IsPermutation entries table → IsSortedBy (λ a b. is_lt (slice_cmp nat_cmp a.name b.name)) table → NamesDiffer (map entry_name entries) → IsTable entries table
table_sorted entries table p s d = record {
  same = p;
  ascend = sorted_ascends (slice_cmp nat_cmp) nat_list_cmp_total bytes_eq names_same entry_name table s
      (IsDistinct-IsPermutation bytes_eq names_flip (map entry_name entries) (map entry_name table) (IsPermutation-map entry_name entries table p) d);
}

pub games_ascend : (games sorted : List Game) → IsPermutation games sorted → IsSortedBy (λ a b. is_lt (slice_cmp nat_cmp a.name b.name)) sorted → NamesDiffer (map game_name games) → NamesAscend (map game_name sorted)
games_ascend games sorted p s d =
    sorted_ascends (slice_cmp nat_cmp) nat_list_cmp_total bytes_eq names_same game_name sorted s
    (IsDistinct-IsPermutation bytes_eq names_flip (map game_name games) (map game_name sorted) (IsPermutation-map game_name games sorted p) d)

-- ---- locations

-- of one location
abbrev pub same_held : Held → Held → Bool
same_held a b = (a.slot == b.slot) && int_eq a.location b.location

held_flip : (a b : Held) → same_held a b ≡ same_held b a
held_flip a b = ap₂ ◌&&◌ (nat_eq_equiv.symm a.slot b.slot) (int_eq_equiv.symm a.location b.location)

pub held_same : (a b : Held) → held_cmp a b ≡ Equal → same_held a b ≡ true
held_same a b h = grind (arith, h)

map_same : (hs : List Held) → map (λ h. h) hs ≡ hs
map_same [] = refl
map_same (h ∷ hs) = ap (λ xs. h ∷ xs) (map_same hs)

pub held_ascends : (entries held : List Held) → IsPermutation entries held → IsSortedBy (λ a b. is_lt (held_cmp a b)) held → IsDistinct same_held entries → Ascend held_cmp held
held_ascends entries held p s d =
    subst (Ascend held_cmp) (map_same held)
    (sorted_ascends held_cmp held_total same_held held_same (λ h. h) held s (subst (IsDistinct same_held) (sym (map_same held)) (IsDistinct-IsPermutation same_held held_flip entries held p d)))

pub keys_ascend : (entries keys : List Key) → IsPermutation entries keys → IsSortedBy (λ a b. is_lt (held_cmp (as_held a) (as_held b))) keys → IsDistinct same_held (map as_held entries) → Ascend held_cmp (map as_held keys)
keys_ascend entries keys p s d =
    sorted_ascends held_cmp held_total same_held held_same as_held keys s
    (IsDistinct-IsPermutation same_held held_flip (map as_held entries) (map as_held keys) (IsPermutation-map as_held entries keys p) d)
