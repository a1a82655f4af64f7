-- The joint of `stress` can be tried: each goal holds with everything in hand, and there is room for all copies.
use Rattle.std.proofs.Common.{◌≡◌, ◌∙◌, ◌≤◌, ◌<◌, ◌+◌, ◌*◌, ◌&&◌, ◌==◌, ℕ, zero, suc, ◌∷◌, Bool, true, false, nat_le, cond, get_or, length, refl, ap, ap₂, arith, length-append}
use Rattle.std.specs.Prelude.{Option, Some, None, sum_by}
use Rattle.std.proofs.lemmas.Grind.{common_steps}
use Rattle.std.proofs.lemmas.List.Sums.{get_or-le-sum_by, sum_by-cons}
use Rattle.mw_rules.specs.Holds.{Bag, Places}
use Rattle.mw_multi.specs.Bags.{entry_count, everything, pool_count, slot_pool}
use Rattle.mw_multi.specs.Numbered.{each_numbered}
use Rattle.mw_reach.specs.Goals.{goal_holds, unmet_from}
use Rattle.mw_reach.specs.Reach.{bag_with}
use Rattle.mw_reach.specs.Required.{missed_from, or_location}
use Rattle.mw_reach.specs.declared.lack.Lack.{Lack}
use Rattle.mw_reach.specs.declared.lack.Lack.TheVariants.{Goal, Location as Spot}
use Rattle.mw_fill.specs.Generated.{IsLacking, slot_pool_size, IsRefused}
use Rattle.mw_fill.specs.Openings.{slot_openings}
use Rattle.mw_fill.specs.declared.seed.GenerateError.TheVariants.{NotBeatable, NotFull, TooManyItems}
use Rattle.mw_stress.specs.Stress as plain
use Rattle.mw_stress.specs.Stress.{copies}
use Rattle.mw_stress.proofs.Joints.{slot_behind, slots_behind, stress_joint}

-- ---- goals

enough : (have : ℕ) → 1 ≤ have → nat_le 1 have ≡ true
enough have h = grind (arith, common_steps)

same_number : (n : ℕ) → (n == n) ≡ true
same_number n = grind (arith, common_steps)

-- the pool has the copies of an entry that is in it
has_copies : (item k : ℕ) → get_or plain.world.pool k (copies 0 0) ≡ copies k 1 → k < length plain.world.pool → 1 ≤ sum_by (entry_count item (item + k)) plain.world.pool
has_copies item k here low =
    let counts : entry_count item (item + k) (copies k 1) ≡ 1 = rw (same_number (item + k)) refl in
    let one : entry_count item (item + k) (get_or plain.world.pool k (copies 0 0)) ≡ 1 = ap (entry_count item (item + k)) here ∙ counts in
    let most = get_or-le-sum_by (entry_count item (item + k)) plain.world.pool k (copies 0 0) low in
    omega (arith, one, most)

both : (x y : Bool) → x ≡ true → y ≡ true → (x && y) ≡ true
both x y p q = rw (p, q) refl

passes : (b : Bool) (number : ℕ) (later : Option ℕ) → b ≡ true → later ≡ None → cond b later (Some number) ≡ None
passes true number later p q = q
passes false number later p q = cc

module _ (bag : Bag) (w : Places) where
  one_met : (i place item : ℕ) → ((n : ℕ) → slot_pool n (slot_behind i place item) ≤ bag n) → goal_holds bag w (slot_behind i place item) ≡ true
  one_met i place item held =
      let has : (k : ℕ) → get_or plain.world.pool k (copies 0 0) ≡ copies k 1 → k < length plain.world.pool → nat_le 1 (bag (item + k)) ≡ true =
      λ k here low. let some = has_copies item k here low in let most = held (item + k) in enough (bag (item + k)) (omega (arith, some, most)) in
      both _ _ (has 0 refl (omega arith)) (both _ _ (has 1 refl (omega arith)) (both _ _ (has 2 refl (omega arith)) (both _ _ (has 3 refl (omega arith)) (both _ _ (has 4 refl (omega arith))
      (both _ _ (has 5 refl (omega arith)) (both _ _ (has 6 refl (omega arith)) (both _ _ (has 7 refl (omega arith)) (both _ true (has 8 refl (omega arith)) refl))))))))

  all_met : (more number i place item : ℕ) → ((n : ℕ) → pool_count (slots_behind i more place item) n ≤ bag n) → unmet_from number (slots_behind i more place item) bag w ≡ None
  all_met zero number i place item held = refl
  all_met (suc more) number i place item held =
      let s = slot_behind i place item in
      let later = slots_behind (suc i) more (place + 70) (item + 12) in
      passes (goal_holds bag w s) number (unmet_from (suc number) later bag w)
      (one_met i place item (λ n. let all = held n in let parts : pool_count (s ∷ later) n ≡ slot_pool n s + pool_count later n = sum_by-cons (slot_pool n) s later in omega (arith, all, parts)))
      (all_met more (suc number) (suc i) (place + 70) (item + 12) (λ n. let all = held n in let parts : pool_count (s ∷ later) n ≡ slot_pool n s + pool_count later n = sum_by-cons (slot_pool n) s later in omega (arith, all, parts)))

none_missed : (more number i place item : ℕ) (w : Places) → missed_from number (slots_behind i more place item) w ≡ None
none_missed zero number i place item w = refl
none_missed (suc more) number i place item w = none_missed more (suc number) (suc i) (place + 70) (item + 12) w

nothing_lacks : (many : ℕ) (lack : Lack) → IsLacking (stress_joint many) (Some lack) → ⊥
nothing_lacks many lack (table, w, placed, least, is) =
    let slots = slots_behind 0 many 0 0 in
    let all = everything (stress_joint many) in
    let none : unmet_from 1 slots (bag_with all table w) w ≡ None = all_met (bag_with all table w) w many 1 0 0 0 (λ n. omega arith) in
    let clash : Some lack ≡ None = is ∙ ap₂ or_location none (none_missed many 1 0 0 0 w) in
    cc

-- ---- room

slot_room : (number i place item : ℕ) → length (slot_openings number (slot_behind i place item)) ≡ 60
slot_room number i place item = refl

all_room : (more number i place item : ℕ) → length (each_numbered slot_openings number (slots_behind i more place item)) ≡ 60 * more
all_room zero number i place item = omega arith
all_room (suc more) number i place item =
    let later = all_room more (suc number) (suc i) (place + 70) (item + 12) in
    let here = slot_room number i place item in
    let parts = length-append (slot_openings number (slot_behind i place item)) (each_numbered slot_openings (suc number) (slots_behind (suc i) more (place + 70) (item + 12))) in
    omega (arith, later, here, parts)

all_pool : (more i place item : ℕ) → sum_by slot_pool_size (slots_behind i more place item) ≡ 18 * more
all_pool zero i place item = omega arith
all_pool (suc more) i place item =
    let later = all_pool more (suc i) (place + 70) (item + 12) in
    let here : sum_by slot_pool_size (slots_behind i (suc more) place item) ≡ 18 + sum_by slot_pool_size (slots_behind (suc i) more (place + 70) (item + 12)) =
    sum_by-cons slot_pool_size (slot_behind i place item) (slots_behind (suc i) more (place + 70) (item + 12)) in
    omega (arith, later, here)

-- ---- no refusal

pub beatable : (many seed slot : ℕ) → IsRefused (stress_joint many) seed 100 (NotBeatable slot) → ⊥
beatable many seed slot refused = nothing_lacks many (Goal slot) refused

pub full : (many seed slot place : ℕ) → IsRefused (stress_joint many) seed 100 (NotFull slot place) → ⊥
full many seed slot place refused = nothing_lacks many (Spot slot place) refused

pub roomy : (many seed have room : ℕ) → IsRefused (stress_joint many) seed 100 (TooManyItems have room) → ⊥
roomy many seed have room (unmet, have_is, room_is, over) =
    let pool = all_pool many 0 0 0 in
    let places = all_room many 1 0 0 0 in
    omega (arith, have_is, room_is, over, pool, places)
