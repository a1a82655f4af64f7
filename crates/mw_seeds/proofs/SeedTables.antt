-- The tables of a game are those of a world: names and ids are as its own, and no two are equal.
use Rattle.std.proofs.Common.{◌≡◌, ◌||◌, ℕ, ℤ, zero, suc, List, [], ◌∷◌, ◌++◌, Bool, true, false, Option, Some, None, map, flat_map, filter_map, bytes_eq, int_eq, IsPermutation, slice_get, refl, sym, ap, subst, ◌∙◌}
use Rattle.std.specs.Prelude.{All}
use Rattle.std.specs.List.{IsDistinct, AllByRecursion, list_any}
use Rattle.std.proofs.lemmas.Cmp.{int_eq_equiv}
use Rattle.std.proofs.lemmas.List.Elements.{All-nil, All-cons, All-head, All-tail}
use Rattle.std.proofs.lemmas.List.Sorted.{All-permutation, IsPermutation-map, list_any-IsPermutation}
use Rattle.std.proofs.lemmas.Map.Keys.{IsDistinct-IsPermutation}
use Rattle.mw_model.specs.Seed.{Game, NamedId}
use Rattle.mw_multi.specs.World.{World, Item, Location}
use Rattle.mw_multi.specs.WorldKept.{IsWorld, ItemKept, LocationKept, IsIdOrNone, item_name, item_id, location_name, location_id}
use Rattle.mw_multi.specs.Names.{IsName, IsId, NamesDiffer, IdsDiffer}
use Rattle.mw_multidata.specs.Names.{has_id}
use Rattle.mw_multidata.specs.SeedKept as file
use Rattle.mw_multidata.specs.SeedKept.{EntryKept, TableKept, GameKept, entry_name, entry_id}
use Rattle.mw_seeds.specs.SeedFile.{named_where, item_entry, location_entry, IsTable, IsGameOf}

-- names and ids of the tables are such as a seed has
pub name_kept : (most : ℕ) (name : List ℕ) → IsName most name → file.IsName most name
name_kept most name h = record { there = h.there; short = h.short; plain = h.plain }

id_kept : (id : ℤ) → IsId id → file.IsId id
id_kept id h = record { low = h.low; high = h.high }

either : (a b : Bool) → b ≡ true → (a || b) ≡ true
either true b h = refl
either false b h = h

itself : (i : ℤ) (b : Bool) → (int_eq i i || b) ≡ true
itself i b = rw (int_eq_equiv.refl i) refl

-- an id is in a list that has the same entries
any_id : (ns : List NamedId) (i : ℤ) → has_id ns i ≡ list_any (λ n. int_eq n.id i) ns
any_id [] i = refl
any_id (n ∷ ns) i = ap (λ b. int_eq n.id i || b) (any_id ns i)

pub same_ids : (ns ms : List NamedId) (i : ℤ) → IsPermutation ns ms → has_id ns i ≡ true → has_id ms i ≡ true
same_ids ns ms i p h = any_id ms i ∙ sym (list_any-IsPermutation (λ n. int_eq n.id i) ns ms p) ∙ sym (any_id ns i) ∙ h

ints_flip : (x y : ℤ) → int_eq x y ≡ int_eq y x
ints_flip x y = int_eq_equiv.symm x y

-- ---- those with an id, of things with a name and perhaps an id

module _ {X : Type 0} (name : X → List ℕ) (id : X → Option ℤ) where
  abbrev entry : X → List NamedId
  entry x = named_where (name x) (id x)

  abbrev entries : List X → List NamedId
  entries xs = flat_map entry xs

  -- what differs from all names differs from those with an id
  fewer_names : (n : List ℕ) (xs : List X) → AllByRecursion (λ y. bytes_eq n y ≡ false) (map name xs) → AllByRecursion (λ y. bytes_eq n y ≡ false) (map entry_name (entries xs))
  fewer_names n [] h = tt
  fewer_names n (x ∷ xs) h =
      elim (id x) as (λ o. AllByRecursion (λ y. bytes_eq n y ≡ false) (map entry_name (named_where (name x) o ++ entries xs))) [ None ↦ fewer_names n xs h.1 | Some i ↦ (h.0, fewer_names n xs h.1) ]

  names_apart : (xs : List X) → NamesDiffer (map name xs) → NamesDiffer (map entry_name (entries xs))
  unfolding IsDistinct
  names_apart [] h = tt
  names_apart (x ∷ xs) h =
      elim (id x) as (λ o. NamesDiffer (map entry_name (named_where (name x) o ++ entries xs))) [ None ↦ names_apart xs h.1 | Some i ↦ (fewer_names (name x) xs h.0, names_apart xs h.1) ]

  entry_ids : (xs : List X) → map entry_id (entries xs) ≡ filter_map (λ i. i) (map id xs)
  entry_ids [] = refl
  entry_ids (x ∷ xs) =
      elim (id x) as (λ o. map entry_id (named_where (name x) o ++ entries xs) ≡ filter_map (λ i. i) (o ∷ map id xs)) [ None ↦ entry_ids xs | Some i ↦ ap (λ is. i ∷ is) (entry_ids xs) ]

  with_entry : (n : List ℕ) (o : Option ℤ) (others : List NamedId) → IsName 128 n → IsIdOrNone o → All EntryKept others → All EntryKept (named_where n o ++ others)
  with_entry n None others h k rest = rest
  with_entry n (Some i) others h k rest = All-cons EntryKept record { name = n; id = i } others (record { name = name_kept 128 n h; id = id_kept i k }) rest

  entries_kept : (xs : List X) → All (λ x. IsName 128 (name x) × IsIdOrNone (id x)) xs → All EntryKept (entries xs)
  entries_kept [] h = All-nil EntryKept
  entries_kept (x ∷ xs) h =
      let Kept : X → Type 0 = λ x. IsName 128 (name x) × IsIdOrNone (id x) in
      let first : Kept x = All-head Kept x xs h in
      with_entry (name x) (id x) (entries xs) first.0 first.1 (entries_kept xs (All-tail Kept x xs h))

  has_later : (n : List ℕ) (o : Option ℤ) (others : List NamedId) (i : ℤ) → has_id others i ≡ true → has_id (named_where n o ++ others) i ≡ true
  has_later n None others i h = h
  has_later n (Some j) others i h = either (int_eq j i) (has_id others i) h

  entry_there : (xs : List X) (k : ℕ) (x : X) (i : ℤ) → slice_get xs k ≡ Some x → id x ≡ Some i → has_id (entries xs) i ≡ true
  entry_there [] k x i there e = cc
  entry_there (y ∷ xs) zero x i there e =
      let same : y ≡ x = cc in
      let given : id y ≡ Some i = ap id same ∙ e in
      rw given (itself i (has_id (entries xs) i))
  entry_there (y ∷ xs) (suc k) x i there e = has_later (name y) (id y) (entries xs) i (entry_there xs k x i there e)

  module _ (xs : List X) (table : List NamedId) (is : IsTable (entries xs) table) where
    good_table : All (λ x. IsName 128 (name x) × IsIdOrNone (id x)) xs → IdsDiffer (map id xs) → TableKept table
    good_table kept ids =
        let differ : IsDistinct int_eq (map entry_id (entries xs)) = subst (IsDistinct int_eq) (sym (entry_ids xs)) ids in
        record {
          each = All-permutation EntryKept (entries xs) table is.same (entries_kept xs kept);
          ascend = is.ascend;
          ids = IsDistinct-IsPermutation int_eq ints_flip (map entry_id (entries xs)) (map entry_id table) (IsPermutation-map entry_id (entries xs) table is.same) differ;
        }

-- ---- a world's tables

item_kept : (i : Item) → ItemKept i → IsName 128 i.name × IsIdOrNone i.id
item_kept i h = (h.name, h.id)

location_kept : (w : World) (l : Location) → LocationKept w l → IsName 128 l.name × IsIdOrNone l.id
location_kept w l h = (h.name, h.id)

module _ (w : World) (g : Game) (is : IsGameOf w g) (of : IsWorld w) where
  pub good_game : GameKept g
  good_game = record {
    name = name_kept 128 g.name (subst (IsName 128) (sym is.name) of.game);
    items = good_table item_name item_id w.items g.item_name_to_id is.items (λ k d l. item_kept _ (of.items.each k d l)) of.items.ids;
    locations = good_table location_name location_id w.locations g.location_name_to_id is.locations (λ k d l. location_kept w _ (of.locations.each k d l)) of.locations.ids;
  }

  -- the game has each item, and each location, that has an id
  pub item_there : (k : ℕ) (i : Item) (id : ℤ) → slice_get w.items k ≡ Some i → i.id ≡ Some id → has_id g.item_name_to_id id ≡ true
  item_there k i id there e = same_ids (flat_map item_entry w.items) g.item_name_to_id id is.items.same (entry_there item_name item_id w.items k i id there e)

  pub location_there : (k : ℕ) (l : Location) (id : ℤ) → slice_get w.locations k ≡ Some l → l.id ≡ Some id → has_id g.location_name_to_id id ≡ true
  location_there k l id there e = same_ids (flat_map location_entry w.locations) g.location_name_to_id id is.locations.same (entry_there location_name location_id w.locations k l id there e)

-- what is made of a world's items or locations, before it is sorted, has names that differ
pub item_names_apart : (items : List Item) → NamesDiffer (map item_name items) → NamesDiffer (map entry_name (flat_map item_entry items))
item_names_apart items h = names_apart item_name item_id items h

pub location_names_apart : (ls : List Location) → NamesDiffer (map location_name ls) → NamesDiffer (map entry_name (flat_map location_entry ls))
location_names_apart ls h = names_apart location_name location_id ls h
