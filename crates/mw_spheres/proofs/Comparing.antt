-- Claimed spheres beside those that are due.
use Rattle.std.proofs.Common.{◌≡◌, ℕ, suc, ◌≤◌, Bool, true, false, cond, eqb, List, [], ◌∷◌, ◌++◌, length, All, None, Some, Ok, Err, refl, sym, ap, ap₂, subst, ◌∙◌, inl, inr, arith}
use Rattle.std.specs.Prelude.{IsErrAnd, OnOk}
use Rattle.std.proofs.lemmas.Bool.{and_parts, cases_Bool, eqb-true}
use Rattle.std.proofs.lemmas.List.Elements.{All-nil, All-cons}
use Rattle.mw_model.specs.Seed.{Spot}
use Rattle.mw_multi.specs.Joint.{Joint}
use Rattle.mw_multi.specs.Placement.{Put}
use Rattle.mw_reach.specs.Reach.{Placed}
use Rattle.mw_spheres.specs.Spots.{placement_table, spot_at}
use Rattle.mw_spheres.specs.Spheres.{AreSpheres, IsSpheres}
use Rattle.mw_reach.specs.declared.lack.Lack.{Lack}
use Rattle.mw_reach.specs.declared.lack.Lack.TheVariants.{Goal, Location as Spotted}
use Rattle.mw_spheres.specs.Lacking.{IsFirstLack}
use Rattle.mw_spheres.specs.Check.{Check, or_later, same_spot, compare_places, first_sphere, later_spheres, compare_spheres, refused_for, Compares, IsChecked}
use Rattle.mw_spheres.specs.declared.refusal.CheckRefusal.{CheckRefusal}
use Rattle.mw_spheres.specs.declared.refusal.CheckRefusal.TheVariants.{GoalMissed, LocationMissed, Wrong, Missing, Memory}

-- ---- what is found

-- nothing, or a place that is wrong or missing
abbrev pub FindsPlace : Check → Type 0
FindsPlace (Ok done) = Unit {0}
FindsPlace (Err (GoalMissed slot)) = ⊥
FindsPlace (Err (LocationMissed slot place)) = ⊥
FindsPlace (Err (Wrong sphere place)) = Unit {0}
FindsPlace (Err (Missing sphere place)) = Unit {0}
FindsPlace (Err Memory) = ⊥

one_finds : (b : Bool) (sphere : ℕ) (c : Spot) (later : Check) → FindsPlace later → FindsPlace (cond b later (Err (Wrong sphere c)))
one_finds true sphere c later h = h
one_finds false sphere c later h = tt

places_find : (sphere : ℕ) (claimed due : List Spot) → FindsPlace (compare_places sphere claimed due)
places_find sphere [] [] = tt
places_find sphere [] (d ∷ due) = tt
places_find sphere (c ∷ claimed) [] = tt
places_find sphere (c ∷ claimed) (d ∷ due) = one_finds (same_spot c d) sphere c (compare_places sphere claimed due) (places_find sphere claimed due)

later_finds : (now later : Check) → FindsPlace now → FindsPlace later → FindsPlace (or_later now later)
later_finds (Ok done) later h k = k
later_finds (Err e) later h k = h

spheres_find : (sphere : ℕ) (claimed due : List (List Spot)) → FindsPlace (compare_spheres sphere claimed due)
spheres_find sphere [] due = places_find sphere [] (first_sphere due)
spheres_find sphere (c ∷ claimed) due = later_finds _ _ (places_find sphere c (first_sphere due)) (spheres_find (suc sphere) claimed (later_spheres due))

checked_at : (joint : Joint) (puts : List Put) (claimed : List (List Spot)) (found : Check) → FindsPlace found → Compares joint puts claimed found → IsChecked joint puts claimed found
checked_at joint puts claimed (Ok done) h c = c
checked_at joint puts claimed (Err (GoalMissed slot)) h c = absurd h
checked_at joint puts claimed (Err (LocationMissed slot place)) h c = absurd h
checked_at joint puts claimed (Err (Wrong sphere place)) h c = c
checked_at joint puts claimed (Err (Missing sphere place)) h c = c
checked_at joint puts claimed (Err Memory) h c = absurd h

pub checked : (joint : Joint) (puts : List Put) (claimed : List (List Spot)) (found : Check) → Compares joint puts claimed found → IsChecked joint puts claimed found
checked joint puts claimed found c = checked_at joint puts claimed found (subst FindsPlace (sym c.is) (spheres_find 0 claimed c.due)) c

-- nothing has to be found where memory ran out
pub memory_checked : (joint : Joint) (puts : List Put) (claimed : List (List Spot)) (found : Check) → IsErrAnd found (λ e. e ≡ Memory) → IsChecked joint puts claimed found
memory_checked joint puts claimed (Ok done) e = absurd e
memory_checked joint puts claimed (Err refusal) e = subst (λ (r : CheckRefusal). IsChecked joint puts claimed (Err r)) (sym e) tt

-- what a placement lacks is its refusal
pub lack_checked : (joint : Joint) (puts : List Put) (claimed : List (List Spot)) (table : Placed) (lack : Lack) → table ≡ placement_table joint puts → IsFirstLack joint table (Some lack) → IsChecked joint puts claimed (Err (refused_for lack))
lack_checked joint puts claimed table (Goal slot) same is = subst (λ t. IsFirstLack joint t (Some (Goal slot))) same is
lack_checked joint puts claimed table (Spotted slot place) same is = subst (λ t. IsFirstLack joint t (Some (Spotted slot place))) same is

-- ---- nothing is found where they are the same

same_is : (a b : Spot) → same_spot a b ≡ true → a ≡ b
same_is a b e =
    let parts = and_parts (eqb a.slot b.slot) (eqb a.index b.index) e in
    ap₂ spot_at (eqb-true a.slot b.slot parts.0) (eqb-true a.index b.index parts.1)

places_same : (sphere : ℕ) (claimed due : List Spot) → compare_places sphere claimed due ≡ Ok tt → claimed ≡ due
places_same sphere [] [] e = refl
places_same sphere [] (d ∷ due) e = cc
places_same sphere (c ∷ claimed) [] e = cc
places_same sphere (c ∷ claimed) (d ∷ due) e = elim (cases_Bool (same_spot c d)) [
  | inl same ↦ ap₂ ◌∷◌ (same_is c d same) (places_same sphere claimed due (rw same at e))
  | inr other ↦ let differs : Err (Wrong sphere c) ≡ Ok tt = rw other at e in cc
]

both_ok : (now later : Check) → or_later now later ≡ Ok tt → (now ≡ Ok tt) × (later ≡ Ok tt)
both_ok (Ok done) later e = (refl, e)
both_ok (Err r) later e = cc

pub nothing_claimed : (sphere : List Spot) → 1 ≤ length sphere → [] ≡ sphere → ⊥
nothing_claimed sphere some e = let none = ap length e in omega arith

pub spheres_same : (sphere : ℕ) (claimed due : List (List Spot)) → All (λ s. 1 ≤ length s) claimed → All (λ s. 1 ≤ length s) due → compare_spheres sphere claimed due ≡ Ok tt → claimed ≡ due
spheres_same sphere [] [] some others e = refl
spheres_same sphere [] (d ∷ due) some others e = absurd (nothing_claimed d (others 0 d (omega arith)) (places_same sphere [] d e))
spheres_same sphere (c ∷ claimed) [] some others e =
    absurd (nothing_claimed c (some 0 c (omega arith)) (sym (places_same sphere c [] (both_ok _ _ e).0)))
spheres_same sphere (c ∷ claimed) (d ∷ due) some others e =
    let both = both_ok _ _ e in
    ap₂ ◌∷◌ (places_same sphere c d both.0) (spheres_same (suc sphere) claimed due (λ i x h. some (suc i) x (omega arith)) (λ i x h. others (suc i) x (omega arith)) both.1)

-- no sphere is empty
pub some_in_each : (joint : Joint) (table : Placed) (earlier : List Spot) (spheres : List (List Spot)) → AreSpheres joint table earlier spheres → All (λ s. 1 ≤ length s) spheres
some_in_each joint table earlier [] is = All-nil (λ s. 1 ≤ length s)
some_in_each joint table earlier (s ∷ spheres) is = All-cons (λ s. 1 ≤ length s) s spheres is.1 (some_in_each joint table (earlier ++ s) spheres is.2)

-- where nothing is found the claimed spheres are those of the placement
pub claimed_are : (joint : Joint) (puts : List Put) (claimed : List (List Spot)) (found : Check) → All (λ s. 1 ≤ length s) claimed → Compares joint puts claimed found → found ≡ Ok tt → IsSpheres joint puts claimed
claimed_are joint puts claimed found some c e =
    subst (IsSpheres joint puts) (sym (spheres_same 0 claimed c.due some (some_in_each joint _ [] c.due c.spheres) (sym c.is ∙ e))) c.spheres

pub ok_claims : (joint : Joint) (puts : List Put) (claimed : List (List Spot)) (found : Check) → All (λ s. 1 ≤ length s) claimed → Compares joint puts claimed found → OnOk found (IsSpheres joint puts claimed)
ok_claims joint puts claimed (Ok done) some c = claimed_are joint puts claimed (Ok done) some c refl
ok_claims joint puts claimed (Err e) some c = tt

-- the parts of the check, over a table of the placement
pub compared : (joint : Joint) (puts : List Put) (claimed due : List (List Spot)) (table : Placed) (found : Check) → table ≡ placement_table joint puts
    → IsFirstLack joint table None → AreSpheres joint table [] due → found ≡ compare_spheres 0 claimed due → Compares joint puts claimed found
compared joint puts claimed due table found same nothing spheres is = record {
  nothing = subst (λ t. IsFirstLack joint t None) same nothing;
  due = due;
  spheres = subst (λ t. AreSpheres joint t [] due) same spheres;
  is = is;
}
