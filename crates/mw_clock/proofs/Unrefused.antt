-- The joint of `Clockwork` can be tried: its goal holds with everything in hand, and there is room for each gear.
use Rattle.std.proofs.Common.{◌≡◌, ◌≤◌, ◌+◌, ◌*◌, ◌&&◌, ℕ, zero, suc, List, [], ◌∷◌, ◌++◌, Bool, true, false, nat_le, cond, refl, subst, arith}
use Rattle.std.specs.Prelude.{Some, None}
use Rattle.std.proofs.lemmas.Grind.{common_steps}
use Rattle.mw_rules.specs.Rule.{always, has}
use Rattle.mw_rules.specs.Holds.{Bag, Places}
use Rattle.mw_multi.specs.Bags.{everything}
use Rattle.mw_multi.specs.Steps.{Step, location_steps, steps_of}
use Rattle.mw_reach.specs.Reach.{Placed, bag_with, Closed}
use Rattle.mw_reach.specs.Required.{or_location}
use Rattle.mw_reach.specs.declared.lack.Lack.{Lack}
use Rattle.mw_reach.specs.declared.lack.Lack.TheVariants.{Goal, Location as Spot}
use Rattle.mw_fill.specs.Generated.{IsLacking, pool_size, room_size, IsRefused}
use Rattle.mw_fill.specs.declared.seed.GenerateError.TheVariants.{NotBeatable, NotFull, TooManyItems}
use Rattle.mw_clock.specs.Clockwork.{IsSize, boxes_below}
use Rattle.mw_clock.proofs.Joints.{clock_slot, clock_joint}
use Rattle.mw_clock.proofs.Twenty.{UpTo, each}

-- ---- the steps

abbrev origin : Step
origin = record { from = None; to = 0; rule = always; first_place = 0; first_item = 0 }

-- the stair from this floor
abbrev stair_step : ℕ → Step
stair_step i = record { from = Some i; to = suc i; rule = has 0 (suc i); first_place = 0; first_item = 0 }

-- so many stairs, the first of which is from this floor, and then these steps
abbrev stairs_then : ℕ → ℕ → List Step → List Step
stairs_then m zero rest = rest
stairs_then m (suc n) rest = stair_step m ∷ stairs_then (suc m) n rest

-- the step to the bell
abbrev bell_step : ℕ → Step
bell_step gears = record { from = Some gears; to = 3 * gears + 1; rule = always; first_place = 0; first_item = 0 }

abbrev boxes_then_bell : ℕ → List Step
boxes_then_bell gears = location_steps (clock_slot gears) 0 (boxes_below gears) ++ bell_step gears ∷ []

abbrev AreSteps : ℕ → Type 0
AreSteps gears = steps_of (clock_joint gears) ≡ origin ∷ stairs_then 0 gears (boxes_then_bell gears)

all_steps : UpTo AreSteps 20
all_steps = ((((((((((((((((((((tt, refl), refl), refl), refl), refl), refl), refl), refl), refl), refl), refl), refl), refl), refl), refl), refl), refl), refl), refl), refl)

-- ---- the way up

enough : (n have : ℕ) → n ≤ have → nat_le n have ≡ true
enough n have h = grind (arith, common_steps)

both : (x y : Bool) → x ≡ true → y ≡ true → (x && y) ≡ true
both x y p q = rw (p, q) refl

behind : (base : Bag) (placed : Placed) (w : Places) (front rest : List Step) → Closed (front ++ rest) base placed w → Closed rest base placed w
behind base placed w [] rest closed = closed
behind base placed w (s ∷ front) rest closed = behind base placed w front rest closed.1

module _ (base : Bag) (placed : Placed) (w : Places) (most : ℕ) (held : most ≤ base 0) where
  climb : (m n : ℕ) (rest : List Step) → m + n ≤ most → w m ≡ true → Closed (stairs_then m n rest) base placed w → (w (m + n) ≡ true) × Closed rest base placed w
  climb m zero rest high there closed = let same : m ≡ m + 0 = omega arith in (subst (λ k. w k ≡ true) same there, closed)
  climb m (suc n) rest high there closed =
      let open_is = both (w m) (nat_le (suc m) (bag_with base placed w 0)) there (enough (suc m) (bag_with base placed w 0) (omega arith)) in
      let above = climb (suc m) n rest (omega arith) (closed.0 open_is) closed.1 in
      let same : suc m + n ≡ m + suc n = omega arith in
      (subst (λ k. w k ≡ true) same above.0, above.1)

  up_to_bell : Closed (origin ∷ stairs_then 0 most (boxes_then_bell most)) base placed w → w (3 * most + 1) ≡ true
  up_to_bell closed =
      let above = climb 0 most (boxes_then_bell most) (omega arith) (closed.0 refl) closed.1 in
      let last = behind base placed w (location_steps (clock_slot most) 0 (boxes_below most)) (bell_step most ∷ []) above.1 in
      let same : 0 + most ≡ most = omega arith in
      last.0 (both (w most) true (subst (λ k. w k ≡ true) same above.0) refl)

-- ---- no refusal

abbrev HasGears : ℕ → Type 0
HasGears gears = everything (clock_joint gears) 0 ≡ gears

all_in_hand : UpTo HasGears 20
all_in_hand = ((((((((((((((((((((tt, refl), refl), refl), refl), refl), refl), refl), refl), refl), refl), refl), refl), refl), refl), refl), refl), refl), refl), refl), refl)

no_lack : (b : Bool) (lack : Lack) → b ≡ true → Some lack ≡ or_location (cond b None (Some 1)) None → ⊥
no_lack true lack p e = cc
no_lack false lack p e = cc

nothing_lacks : (gears : ℕ) (lack : Lack) → IsSize gears → IsLacking (clock_joint gears) (Some lack) → ⊥
nothing_lacks gears lack size (table, w, placed, least, is) =
    let base = everything (clock_joint gears) in
    let held : gears ≤ base 0 = omega (arith, each HasGears gears all_in_hand size) in
    let closed = subst (λ steps. Closed steps base table w) (each AreSteps gears all_steps size) least.closed in
    let same : 3 * gears + 1 ≡ 0 + (3 * gears + 1) = omega arith in
    let reached : w (0 + (3 * gears + 1)) ≡ true = subst (λ p. w p ≡ true) same (up_to_bell base table w gears held closed) in
    no_lack (w (0 + (3 * gears + 1))) lack reached is

abbrev HasRoom : ℕ → Type 0
HasRoom gears = room_size (clock_joint gears) ≡ 2 * gears + 1

all_have_room : UpTo HasRoom 20
all_have_room = ((((((((((((((((((((tt, refl), refl), refl), refl), refl), refl), refl), refl), refl), refl), refl), refl), refl), refl), refl), refl), refl), refl), refl), refl)

abbrev HasPool : ℕ → Type 0
HasPool gears = pool_size (clock_joint gears) ≡ gears

all_have_pool : UpTo HasPool 20
all_have_pool = ((((((((((((((((((((tt, refl), refl), refl), refl), refl), refl), refl), refl), refl), refl), refl), refl), refl), refl), refl), refl), refl), refl), refl), refl)

pub beatable : (gears seed tries slot : ℕ) → IsSize gears → IsRefused (clock_joint gears) seed tries (NotBeatable slot) → ⊥
beatable gears seed tries slot size refused = nothing_lacks gears (Goal slot) size refused

pub full : (gears seed tries slot place : ℕ) → IsSize gears → IsRefused (clock_joint gears) seed tries (NotFull slot place) → ⊥
full gears seed tries slot place size refused = nothing_lacks gears (Spot slot place) size refused

pub roomy : (gears seed tries have room : ℕ) → IsSize gears → IsRefused (clock_joint gears) seed tries (TooManyItems have room) → ⊥
roomy gears seed tries have room size (unmet, have_is, room_is, over) = omega (arith, each HasRoom gears all_have_room size, each HasPool gears all_have_pool size)
