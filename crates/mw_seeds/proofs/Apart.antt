-- Where two ascending lists of entries first differ.
use Rattle.std.proofs.Common.{◌≡◌, ◌≢◌, ◌==◌, ◌&&◌, ℕ, ℤ, zero, suc, List, [], ◌∷◌, Bool, true, false, Option, Some, None, int_eq, is_lt, length, get_or, inl, inr, ◌<◌, ◌+◌, Ordering, Less, Equal, Greater, refl, sym, ap, subst, ◌∙◌, arith, All}
use Rattle.std.specs.Prelude.{if◌then◌else◌, Contains}
use Rattle.std.specs.Ordering.{ordering_reverse, ordering_index}
use Rattle.std.specs.List.{HoldsAt}
use Rattle.std.specs.List.Sorted.{IsNonDecreasingBy, IsPartitionPoint}
use Rattle.std.proofs.lemmas.Bool.{cases_lt}
use Rattle.std.proofs.lemmas.List.Sorted.{searchable_from_sorted}
use Rattle.std.proofs.lemmas.List.Elements.{All-head, All-tail}
use Rattle.mw_model.specs.Seed.{Held, held_among}
use Rattle.mw_model.specs.Ascending.{Ascend, ComesBefore}
use Rattle.mw_multidata.specs.SeedKept.{held_cmp}
use Rattle.mw_seeds.specs.Agreeing.{location_cmp}
use Rattle.mw_seeds.specs.Keys.{entry_at}
use Rattle.mw_seeds.specs.FilePuts.{same_entry, earlier_of, first_apart}
use Rattle.mw_multidata.proofs.NamesKept.{held_total}

-- ---- entries by their location

abbrev pub is_at : ℕ → ℤ → Held → Bool
is_at s l h = (h.slot == s) && int_eq h.location l

not_before : (s : ℕ) (l : ℤ) (h : Held) → location_cmp s l h.slot h.location ≡ Less → is_at s l h ≡ false
not_before s l h e = grind (arith, e)

not_after : (s : ℕ) (l : ℤ) (h : Held) → location_cmp h.slot h.location s l ≡ Less → is_at s l h ≡ false
not_after s l h e = grind (arith, e)

at_own : (h : Held) → is_at h.slot h.location h ≡ true
at_own h = grind arith

pub at_it : (s : ℕ) (l : ℤ) (h : Held) → is_at s l h ≡ true → (h.slot ≡ s) × (h.location ≡ l)
at_it s l h e = (grind (arith, e), grind (arith, e))

pub none_before : (s : ℕ) (l : ℤ) (hs : List Held) → ComesBefore held_cmp (entry_at s l) hs → held_among hs s l ≡ None
none_before s l [] c = refl
none_before s l (h ∷ hs) c = ap (λ b. if b then Some h else held_among hs s l) (not_before s l h c.0) ∙ none_before s l hs c.1

pub below : (a b : Held) (hs : List Held) → held_cmp a b ≡ Less → ComesBefore held_cmp b hs → ComesBefore held_cmp a hs
below a b [] l h = tt
below a b (k ∷ hs) l h = (held_total.trans a b k l h.0, below a b hs l h.1)

pub none_earlier : (s : ℕ) (l : ℤ) (h : Held) (hs : List Held) → location_cmp s l h.slot h.location ≡ Less → Ascend held_cmp (h ∷ hs) → held_among (h ∷ hs) s l ≡ None
none_earlier s l h hs e dsc = none_before s l (h ∷ hs) (e, below (entry_at s l) h hs e dsc.0)

pub first_there : (h : Held) (hs : List Held) → held_among (h ∷ hs) h.slot h.location ≡ Some h
first_there h hs = ap (λ b. if b then Some h else held_among hs h.slot h.location) (at_own h)

past_first : (s : ℕ) (l : ℤ) (h : Held) (hs : List Held) → location_cmp h.slot h.location s l ≡ Less → held_among (h ∷ hs) s l ≡ held_among hs s l
past_first s l h hs e = ap (λ b. if b then Some h else held_among hs s l) (not_after s l h e)

comes_at : (a : Held) (hs : List Held) (k : ℕ) (h : Held) → ComesBefore held_cmp a hs → Contains hs h → held_cmp a h ≡ Less
comes_at a [] k h c (i, l, e) = absurd (omega (arith, l))
comes_at a (x ∷ hs) k h c (zero, l, e) = subst (λ y. held_cmp a y ≡ Less) e c.0
comes_at a (x ∷ hs) k h c (suc i, l, e) = comes_at a hs k h c.1 (i, omega (arith, l), e)

-- an entry of the list is what stands at its location
pub among_there : (hs : List Held) (h : Held) → Ascend held_cmp hs → Contains hs h → held_among hs h.slot h.location ≡ Some h
among_there [] h dsc (i, l, e) = absurd (omega (arith, l))
among_there (x ∷ hs) h dsc (zero, l, e) = subst (λ y. held_among (x ∷ hs) y.slot y.location ≡ Some y) e (first_there x hs)
among_there (x ∷ hs) h dsc (suc i, l, e) =
    let there : Contains hs h = (i, omega (arith, l), e) in
    past_first h.slot h.location x hs (comes_at x hs i h dsc.0 there) ∙ among_there hs h dsc.1 there

pub record IsFoundAt (P : Held → Type 0) (s : ℕ) (l : ℤ) (h : Held) : Type 0 where
  pub holds : P h
  pub slot : h.slot ≡ s
  pub location : h.location ≡ l

found_first : (P : Held → Type 0) (s : ℕ) (l : ℤ) (x : Held) (hs : List Held) (h : Held) (b : Bool) → is_at s l x ≡ b → (if b then Some x else held_among hs s l) ≡ Some h → P x
    → (held_among hs s l ≡ Some h → IsFoundAt P s l h) → IsFoundAt P s l h
found_first P s l x hs h true at e p later =
    let same : x ≡ h = cc in
    let here = at_it s l x at in
    subst (IsFoundAt P s l) same record { holds = p; slot = here.0; location = here.1 }
found_first P s l x hs h false at e p later = later e

-- what stands at a location is an entry of the list, of that location
pub among_is : (P : Held → Type 0) (s : ℕ) (l : ℤ) (hs : List Held) (h : Held) → All P hs → held_among hs s l ≡ Some h → IsFoundAt P s l h
among_is P s l [] h p e = cc
among_is P s l (x ∷ hs) h p e = found_first P s l x hs h (is_at s l x) refl e (All-head P x hs p) (among_is P s l hs h (All-tail P x hs p))

-- ---- the first entry in which they differ

abbrev held_of : ℕ → ℤ → ℤ → ℕ → ℕ → Held
held_of s l i r f = record { slot = s; location = l; item = i; receiver = r; flags = f }

fields_same : (s t : ℕ) (l m i j : ℤ) (r q f g : ℕ) → s ≡ t → l ≡ m → i ≡ j → r ≡ q → f ≡ g → held_of s l i r f ≡ held_of t m j q g
fields_same s t l m i j r q f g slot location item receiver flags =
    let with_slot : held_of s l i r f ≡ held_of t l i r f = ap (λ x. held_of x l i r f) slot in
    let with_location : held_of s l i r f ≡ held_of t m i r f = with_slot ∙ ap (λ x. held_of t x i r f) location in
    let with_item : held_of s l i r f ≡ held_of t m j r f = with_location ∙ ap (λ x. held_of t m x r f) item in
    let with_receiver : held_of s l i r f ≡ held_of t m j q f = with_item ∙ ap (λ x. held_of t m j x f) receiver in
    with_receiver ∙ ap (λ x. held_of t m j q x) flags

same_is : (a b : Held) → same_entry a b ≡ true → a ≡ b
same_is a b e =
    let slot : a.slot ≡ b.slot = grind (arith, e) in
    let location : a.location ≡ b.location = grind (arith, e) in
    let item : a.item ≡ b.item = grind (arith, e) in
    let receiver : a.receiver ≡ b.receiver = grind (arith, e) in
    let flags : a.flags ≡ b.flags = grind (arith, e) in
    fields_same a.slot b.slot a.location b.location a.item b.item a.receiver b.receiver a.flags b.flags slot location item receiver flags

same_self : (a : Held) → same_entry a a ≡ true
same_self a = grind arith

-- there they differ, and before they don't
pub record IsApart (due held : List Held) (x : Held) : Type 0 where
  pub differ : held_among due x.slot x.location ≢ held_among held x.slot x.location
  pub earlier : (s : ℕ) (l : ℤ) → location_cmp s l x.slot x.location ≡ Less → held_among due s l ≡ held_among held s l

none_some : (a b : Option Held) (h : Held) → a ≡ None → b ≡ Some h → a ≢ b
none_some a b h e f same = cc

some_none : (a b : Option Held) (h : Held) → a ≡ Some h → b ≡ None → a ≢ b
some_none a b h e f same = cc

pub earlier_first : (a b : Held) → held_cmp a b ≡ Less → earlier_of a b ≡ a
earlier_first a b e =
    let back : held_cmp b a ≡ Greater = held_total.antisymm b a ∙ ap ordering_reverse e in
    ap (λ o. if is_lt o then b else a) back

pub earlier_second : (a b : Held) → held_cmp a b ≡ Greater → earlier_of a b ≡ b
earlier_second a b e =
    let back : held_cmp b a ≡ Less = held_total.antisymm b a ∙ ap ordering_reverse e in
    ap (λ o. if is_lt o then b else a) back

pub earlier_tied : (a b : Held) → held_cmp a b ≡ Equal → earlier_of a b ≡ a
earlier_tied a b e =
    let back : held_cmp b a ≡ Equal = held_total.antisymm b a ∙ ap ordering_reverse e in
    ap (λ o. if is_lt o then b else a) back

module _ (a b : Held) (due held : List Held) (dsc : Ascend held_cmp (a ∷ due)) (hsc : Ascend held_cmp (b ∷ held)) where
  heads_apart : same_entry a b ≡ false → (o : Ordering) → held_cmp a b ≡ o → IsApart (a ∷ due) (b ∷ held) (earlier_of a b)
  heads_apart d Less is = subst (IsApart (a ∷ due) (b ∷ held)) (sym (earlier_first a b is)) record {
    differ = some_none (held_among (a ∷ due) a.slot a.location) (held_among (b ∷ held) a.slot a.location) a (first_there a due) (none_earlier a.slot a.location b held is hsc);
    earlier = λ s l e. none_earlier s l a due e dsc ∙ sym (none_earlier s l b held (held_total.trans (entry_at s l) a b e is) hsc);
  }
  heads_apart d Greater is =
      let back : held_cmp b a ≡ Less = held_total.antisymm b a ∙ ap ordering_reverse is in
      subst (IsApart (a ∷ due) (b ∷ held)) (sym (earlier_second a b is)) record {
        differ = none_some (held_among (a ∷ due) b.slot b.location) (held_among (b ∷ held) b.slot b.location) b (none_earlier b.slot b.location a due back dsc) (first_there b held);
        earlier = λ s l e. none_earlier s l a due (held_total.trans (entry_at s l) b a e back) dsc ∙ sym (none_earlier s l b held e hsc);
      }
  heads_apart d Equal is =
      let slot : a.slot ≡ b.slot = grind (arith, is) in
      let location : a.location ≡ b.location = grind (arith, is) in
      let right : held_among (b ∷ held) a.slot a.location ≡ Some b =
      ap (λ s. held_among (b ∷ held) s a.location) slot ∙ ap (λ l. held_among (b ∷ held) b.slot l) location ∙ first_there b held in
      subst (IsApart (a ∷ due) (b ∷ held)) (sym (earlier_tied a b is)) record {
        differ = λ same.
            let equal : Some a ≡ Some b = sym (first_there a due) ∙ same ∙ right in
            let both : a ≡ b = cc in
            let tied : same_entry a b ≡ true = subst (λ y. same_entry a y ≡ true) both (same_self a) in
            cc;
        earlier = λ s l e.
            let also : location_cmp s l b.slot b.location ≡ Less = subst (λ n. location_cmp s l n b.location ≡ Less) slot (subst (λ m. location_cmp s l a.slot m ≡ Less) location e) in
            none_earlier s l a due e dsc ∙ sym (none_earlier s l b held also hsc);
      }

one_of : (k a b : Held) (t : Bool) → held_cmp k a ≡ Less → held_cmp k b ≡ Less → held_cmp k (if t then b else a) ≡ Less
one_of k a b true h i = i
one_of k a b false h i = h

heads_after : (k a b x : Held) (later : Option Held) (t : Bool) → (if t then later else Some (earlier_of a b)) ≡ Some x → held_cmp k a ≡ Less → held_cmp k b ≡ Less → (later ≡ Some x → held_cmp k x ≡ Less) → held_cmp k x ≡ Less
heads_after k a b x later true e h i rest = rest e
heads_after k a b x later false e h i rest =
    let same : earlier_of a b ≡ x = cc in
    subst (λ y. held_cmp k y ≡ Less) same (one_of k a b (is_lt (held_cmp b a)) h i)

-- what comes before both lists comes before the entry
comes_apart : (k : Held) (due held : List Held) (x : Held) → first_apart due held ≡ Some x → ComesBefore held_cmp k due → ComesBefore held_cmp k held → held_cmp k x ≡ Less
comes_apart k [] [] x e c d = cc
comes_apart k [] (b ∷ held) x e c d = let same : b ≡ x = cc in subst (λ y. held_cmp k y ≡ Less) same d.0
comes_apart k (a ∷ due) [] x e c d = let same : a ≡ x = cc in subst (λ y. held_cmp k y ≡ Less) same c.0
comes_apart k (a ∷ due) (b ∷ held) x e c d = heads_after k a b x (first_apart due held) (same_entry a b) e c.0 d.0 (λ f. comes_apart k due held x f c.1 d.1)

tail_apart : (a : Held) (due held : List Held) (x : Held) → Ascend held_cmp (a ∷ due) → Ascend held_cmp (a ∷ held) → held_cmp a x ≡ Less → IsApart due held x → IsApart (a ∷ due) (a ∷ held) x
tail_apart a due held x dsc hsc less h = record {
  differ = λ same. h.differ (sym (past_first x.slot x.location a due less) ∙ same ∙ past_first x.slot x.location a held less);
  earlier = λ s l e. ap (λ o. if is_at s l a then Some a else o) (h.earlier s l e);
}

both_apart : (a b : Held) (due held : List Held) (x : Held) (t : Bool) → same_entry a b ≡ t → Ascend held_cmp (a ∷ due) → Ascend held_cmp (b ∷ held) → (if t then first_apart due held else Some (earlier_of a b)) ≡ Some x
    → (first_apart due held ≡ Some x → IsApart due held x) → IsApart (a ∷ due) (b ∷ held) x
both_apart a b due held x true is dsc hsc e rest =
    let same : a ≡ b = same_is a b is in
    let with_a : Ascend held_cmp (a ∷ held) = subst (λ y. Ascend held_cmp (y ∷ held)) (sym same) hsc in
    subst (λ y. IsApart (a ∷ due) (y ∷ held) x) same (tail_apart a due held x dsc with_a (comes_apart a due held x e dsc.0 with_a.0) (rest e))
both_apart a b due held x false is dsc hsc e rest =
    let same : earlier_of a b ≡ x = cc in
    subst (IsApart (a ∷ due) (b ∷ held)) same (heads_apart a b due held dsc hsc is (held_cmp a b) refl)

pub apart_is : (due held : List Held) (x : Held) → Ascend held_cmp due → Ascend held_cmp held → first_apart due held ≡ Some x → IsApart due held x
apart_is [] [] x dsc hsc e = cc
apart_is [] (b ∷ held) x dsc hsc e =
    let same : b ≡ x = cc in
    subst (IsApart [] (b ∷ held)) same record {
      differ = none_some None (held_among (b ∷ held) b.slot b.location) b refl (first_there b held);
      earlier = λ s l less. sym (none_earlier s l b held less hsc);
    }
apart_is (a ∷ due) [] x dsc hsc e =
    let same : a ≡ x = cc in
    subst (IsApart (a ∷ due) []) same record {
      differ = some_none (held_among (a ∷ due) a.slot a.location) None a (first_there a due) refl;
      earlier = λ s l less. none_earlier s l a due less dsc;
    }
apart_is (a ∷ due) (b ∷ held) x dsc hsc e = both_apart a b due held x (same_entry a b) refl dsc hsc e (apart_is due held x dsc.1 hsc.1)

same_heads : (a b : Held) (due held : List Held) (t : Bool) → same_entry a b ≡ t → (if t then first_apart due held else Some (earlier_of a b)) ≡ None → (first_apart due held ≡ None → due ≡ held) → a ∷ due ≡ b ∷ held
same_heads a b due held true is e rest = ap (λ x. x ∷ due) (same_is a b is) ∙ ap (λ xs. b ∷ xs) (rest e)
same_heads a b due held false is e rest = cc

pub same_lists : (due held : List Held) → first_apart due held ≡ None → due ≡ held
same_lists [] [] e = refl
same_lists [] (b ∷ held) e = cc
same_lists (a ∷ due) [] e = cc
same_lists (a ∷ due) (b ∷ held) e = same_heads a b due held (same_entry a b) refl e (same_lists due held)

-- ---- searches

sorted_tail : (hs : List Held) → Ascend held_cmp hs → (k : ℕ) (d : Held) → suc k < length hs → is_lt (held_cmp (get_or hs (suc k) d) (get_or hs k d)) ≡ false
sorted_tail [] asc k d l = absurd (omega (arith, l))
sorted_tail (x ∷ []) asc zero d l = absurd (omega (arith, l))
sorted_tail (x ∷ y ∷ hs) asc zero d l = ap is_lt (held_total.antisymm y x ∙ ap ordering_reverse asc.0.0)
sorted_tail (x ∷ hs) asc (suc k) d l = sorted_tail hs asc.1 k d (omega (arith, l))

rising : (s : ℕ) (l : ℤ) (hs : List Held) → Ascend held_cmp hs → IsNonDecreasingBy (λ h. ordering_index (location_cmp h.slot h.location s l)) hs
rising s l hs asc =
    searchable_from_sorted held_total (λ h. h) hs (entry_at s l)
    (λ k d low within. let next : k + 1 ≡ suc k = omega arith in subst (λ n. is_lt (held_cmp (get_or hs n d) (get_or hs k d)) ≡ false) (sym next) (sorted_tail hs asc k d (omega (arith, within))))

pub search_found : (hs : List Held) (k : ℕ) (h : Held) (s : ℕ) (l : ℤ) → Ascend held_cmp hs → k < length hs → h ≡ get_or hs k h → HoldsAt (λ x. location_cmp x.slot x.location s l ≡ Equal) hs k → Some h ≡ held_among hs s l
search_found hs k h s l asc within is tied =
    let equal : location_cmp h.slot h.location s l ≡ Equal = subst (λ x. location_cmp x.slot x.location s l ≡ Equal) (sym is) (tied h) in
    let slot : h.slot ≡ s = grind (arith, equal) in
    let location : h.location ≡ l = grind (arith, equal) in
    sym (among_there hs h asc (k, within, sym is)) ∙ ap (λ n. held_among hs n h.location) slot ∙ ap (λ i. held_among hs s i) location

none_at_all : (hs : List Held) (s : ℕ) (l : ℤ) → ((k : ℕ) (d : Held) → k < length hs → is_at s l (get_or hs k d) ≡ false) → held_among hs s l ≡ None
none_at_all [] s l h = refl
none_at_all (x ∷ hs) s l h = ap (λ b. if b then Some x else held_among hs s l) (h 0 x (omega arith)) ∙ none_at_all hs s l (λ k d w. h (suc k) d (omega (arith, w)))

not_greater : (s : ℕ) (l : ℤ) (h : Held) → location_cmp h.slot h.location s l ≡ Greater → is_at s l h ≡ false
not_greater s l h e = grind (arith, e)

pub search_none : (hs : List Held) (i : ℕ) (s : ℕ) (l : ℤ) → Ascend held_cmp hs
    → (IsNonDecreasingBy (λ h. ordering_index (location_cmp h.slot h.location s l)) hs → IsPartitionPoint (λ h. location_cmp h.slot h.location s l ≡ Less) (λ h. location_cmp h.slot h.location s l ≡ Greater) hs i) → None ≡ held_among hs s l
search_none hs i s l asc parts =
    let split = parts (rising s l hs asc) in
    sym (none_at_all hs s l (λ k d w. elim (cases_lt k i) [
      | inl less ↦ not_after s l (get_or hs k d) (split.0 k d (omega arith) less)
      | inr more ↦ not_greater s l (get_or hs k d) (split.1 k d more w)
    ]))
