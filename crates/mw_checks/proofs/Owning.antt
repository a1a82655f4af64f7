-- Slots that ascend, each of which is there once.
use Rattle.std.proofs.Common.{◌≡◌, ℕ, zero, suc, ◌==◌, ◌||◌, ◌+◌, ◌-◌, ◌<◌, ◌≤◌, Option, Some, None, List, [], ◌∷◌, ◌++◌, Bool, true, false, cond, drop, length, get_or, subst, refl, sym, ap, ap₂, ◌∙◌, append-nil, arith}
use Rattle.std.specs.Ordering.{nat_cmp}
use Rattle.std.specs.Cmp.{nat_cmp_is}
use Rattle.std.specs.declared.cmp.Ordering.TheVariants.{Less, Equal}
use Rattle.std.proofs.lemmas.Bool.Decides.{Decides-eqb}
use Rattle.std.proofs.lemmas.List.{drop_more}
use Rattle.std.proofs.lemmas.Option.{get_or_from_slice_get, slice_get_within}
use Rattle.std.proofs.lemmas.List.Elements.{All-get_or}
use Rattle.mw_model.specs.Ascending.{Ascend, ComesBefore}
use Rattle.std.specs.Prelude.{All, nat_le, slice_get}
use Rattle.mw_model.specs.Seed.{Seed, Group, group_of, has_number, is_member, is_owner}
use Rattle.mw_multidata.specs.SeedKept.{GroupKept, IsSeed}
use Rattle.mw_checks.specs.Rows.{one_if}
use Rattle.mw_checks.proofs.Keeping.{not_true}

unequal : (m l : ℕ) → nat_cmp m l ≡ Less → (l == m) ≡ false
unequal m l less =
    not_true (l == m) (λ test.
    let is : l ≡ m = (Decides-eqb l m).0 test in
    let same : Equal ≡ nat_cmp m l = nat_cmp_is m l Equal (sym is) in
    let wrong : Equal ≡ Less = same ∙ less in
    cc)

once : (m : ℕ) (ms : List ℕ) → ComesBefore nat_cmp m ms → has_number ms m ≡ false
once m [] b = refl
once m (l ∷ ls) b = ap₂ (λ (x y : Bool). x || y) (unequal m l b.0) (once m ls b.1)

pub ascend_drop : (n : ℕ) (ms : List ℕ) → Ascend nat_cmp ms → Ascend nat_cmp (drop n ms)
ascend_drop zero ms a = a
ascend_drop (suc n) [] a = tt
ascend_drop (suc n) (m ∷ ms) a = ascend_drop n ms a.1

-- a slot is the first of these, or among the others, and never both
apart : (first later : Bool) → (first ≡ true → later ≡ false) → one_if (first || later) ≡ one_if first + one_if later
apart true later h = let none : one_if later ≡ 0 = ap one_if (h refl) in omega (arith, none)
apart false later h = omega arith

pub counted_apart : (m : ℕ) (ms : List ℕ) (slot : ℕ) → Ascend nat_cmp (m ∷ ms) → one_if (has_number (m ∷ ms) slot) ≡ one_if (m == slot) + one_if (has_number ms slot)
counted_apart m ms slot a =
    apart (m == slot) (has_number ms slot) (λ is. ap (has_number ms) (sym ((Decides-eqb m slot).0 is)) ∙ once m ms a.0)

-- the slot that a loop stands at
pub next_of : (ms : List ℕ) (i m : ℕ) → i < length ms → m ≡ get_or ms i m → drop i ms ≡ m ∷ drop (i + 1) ms
next_of ms i m within is = drop_more ms i m within ∙ ap (λ (n : ℕ). n ∷ drop (i + 1) ms) (sym is)

-- who is among the later ones is among all
pub among_all : (ms : List ℕ) (i m : ℕ) → has_number (drop i ms) m ≡ true → has_number ms m ≡ true
among_all ms zero m h = h
among_all [] (suc i) m h = h
among_all (x ∷ ms) (suc i) m h = elim (x == m) as (λ b. (b || has_number ms m) ≡ true) [ true ↦ refl | false ↦ among_all ms i m h ]

-- the first of these is among them
pub first_among : (m : ℕ) (ms : List ℕ) → has_number (m ∷ ms) m ≡ true
first_among m ms = ap (λ (b : Bool). b || has_number ms m) ((Decides-eqb m m).1 refl)

-- so it is with a number that is put for each
pub put_apart : (m : ℕ) (ms : List ℕ) (slot n : ℕ) (ns : List ℕ) → Ascend nat_cmp (m ∷ ms) → ns ++ cond (has_number (m ∷ ms) slot) (n ∷ []) [] ≡ (ns ++ cond (m == slot) (n ∷ []) []) ++ cond (has_number ms slot) (n ∷ []) []
put_apart m ms slot n ns a =
    (elim (m == slot) as (λ b. (m == slot) ≡ b → ns ++ cond (b || has_number ms slot) (n ∷ []) [] ≡ (ns ++ cond b (n ∷ []) []) ++ cond (has_number ms slot) (n ∷ []) []) [
      | true ↦ (λ is.
          let none : has_number ms slot ≡ false = ap (has_number ms) (sym ((Decides-eqb m slot).0 is)) ∙ once m ms a.0 in
          sym (append-nil (ns ++ n ∷ [])) ∙ ap (λ (b : Bool). (ns ++ n ∷ []) ++ cond b (n ∷ []) []) (sym none))
      | false ↦ (λ is. ap (λ (xs : List ℕ). xs ++ cond (has_number ms slot) (n ∷ []) []) (sym (append-nil ns)))
    ]) refl

-- ---- owners

pub slot_owns : (seed : Seed) (receiver slot : ℕ) → receiver ≤ length seed.slots → is_owner seed receiver slot ≡ (receiver == slot)
slot_owns seed receiver slot h = grind (arith, h)

owned_beyond : (seed : Seed) (receiver slot : ℕ) → length seed.slots < receiver → is_owner seed receiver slot ≡ is_member (group_of seed receiver) slot
owned_beyond seed receiver slot h = grind (arith, h)

pub members_own : (seed : Seed) (receiver slot : ℕ) (g : Group) → length seed.slots < receiver → group_of seed receiver ≡ Some g → is_owner seed receiver slot ≡ has_number g.members slot
members_own seed receiver slot g h is = owned_beyond seed receiver slot h ∙ ap (λ (o : Option Group). is_member o slot) is

pub nobody_owns : (seed : Seed) (receiver slot : ℕ) → length seed.slots < receiver → group_of seed receiver ≡ None → is_owner seed receiver slot ≡ false
nobody_owns seed receiver slot h is = owned_beyond seed receiver slot h ∙ ap (λ (o : Option Group). is_member o slot) is

group_at : (P : Group → Type 0) (gs : List Group) (k : ℕ) (g : Group) → All P gs → slice_get gs k ≡ Some g → P g
group_at P gs k g all is =
    subst P (get_or_from_slice_get gs k g g is) (All-get_or P gs k g (slice_get_within gs k g is) all)

-- a group's members ascend
pub members_ascend : (seed : Seed) (number : ℕ) (g : Group) → IsSeed seed → group_of seed number ≡ Some g → Ascend nat_cmp g.members
members_ascend seed number g kept is =
    (elim (nat_le number (length seed.slots)) as (λ b. cond b None (slice_get seed.groups (number - suc (length seed.slots))) ≡ Some g → Ascend nat_cmp g.members) [
      | true ↦ (λ none. absurd (cc))
      | false ↦ (λ there. (group_at (GroupKept seed) seed.groups (number - suc (length seed.slots)) g kept.groups.each there).ascend)
    ]) is
