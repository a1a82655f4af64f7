-- What a playthrough needs.
use Rattle.std.proofs.Common.{◌≡◌, ◌≢◌, ℕ, suc, ◌≤◌, Bool, true, false, cond, eqb, List, [], ◌∷◌, length, get_or, map, set, All, Option, None, Some, refl, sym, ap, subst, ◌∙◌, inl, inr, arith, get_or-set_same, get_or-set_other, length-set}
use Rattle.std.specs.Prelude.{◌&&◌, not, filter, if◌then◌else◌}
use Rattle.std.proofs.lemmas.Bool.{true≢false, and_parts, cases_Bool, cases_eq, cases_lt, or_cases, eqb-true}
use Rattle.std.proofs.lemmas.Bool.Decides.{Decides-eqb}
use Rattle.std.proofs.lemmas.List.{get_or_past}
use Rattle.std.proofs.lemmas.List.FromFn.{get_or-map-range_with_len, length-map-range_with_len}
use Rattle.std.proofs.lemmas.List.Elements.{All-nil, All-cons}
use Rattle.mw_model.specs.Seed.{Spot}
use Rattle.mw_rules.specs.Holds.{Places, places_of}
use Rattle.mw_rules.specs.Laws.{HasNoLess}
use Rattle.mw_rules.specs.Names.{is_among}
use Rattle.mw_multi.specs.Joint.{Slot, Joint}
use Rattle.mw_multi.specs.Bags.{start_count}
use Rattle.mw_multi.specs.Placement.{Put, numbers_at}
use Rattle.mw_multi.specs.Steps.{steps_of}
use Rattle.mw_reach.specs.Reach.{Placed, times_in, found_from, bag_with}
use Rattle.mw_reach.specs.Goals.{MeetsGoals}
use Rattle.mw_reach.proofs.Beating.{goals_more, least_of_met}
use Rattle.mw_reach.proofs.SameLeast.{Closed-less}
use Rattle.mw_spheres.specs.Spots.{spot_place, is_listed, placement_table}
use Rattle.mw_spheres.specs.Spheres.{listed}
use Rattle.mw_spheres.specs.Unmet.{IsFirstUnmet}
use Rattle.mw_spheres.specs.Playthrough.{only, after, IsThinned, is_kept, IsPlaythrough, other_at, others, NoneToSpare}
use Rattle.mw_spheres.proofs.Only.{only-at}
use Rattle.mw_spheres.proofs.Playing.{all_listed}

-- ---- tables that have no less

cond_more : (b : Bool) (m n : ℕ) → m ≤ n → cond b m 0 ≤ cond b n 0
cond_more true m n h = h
cond_more false m n h = omega arith

cond_nothing : (b : Bool) → cond b 0 0 ≤ 0
cond_nothing true = omega arith
cond_nothing false = omega arith

pub found_at_more : (k : ℕ) (xs ys : Placed) (w : Places) (i : ℕ) → ((j : ℕ) → times_in i (numbers_at xs j) ≤ times_in i (numbers_at ys j)) → found_from k xs w i ≤ found_from k ys w i
found_at_more k [] ys w i h = omega arith
found_at_more k (x ∷ xs) [] w i h = omega (arith, cond_more (w k) (times_in i x) 0 (h 0), found_at_more (suc k) xs [] w i (λ j. h (suc j)), cond_nothing (w k))
found_at_more k (x ∷ xs) (y ∷ ys) w i h = omega (arith, cond_more (w k) (times_in i x) (times_in i y) (h 0), found_at_more (suc k) xs ys w i (λ j. h (suc j)))

-- what is enough to beat the goals stays enough with more
meets_more : (joint : Joint) (a b : Placed) → ((i j : ℕ) → times_in i (numbers_at a j) ≤ times_in i (numbers_at b j)) → MeetsGoals joint a → MeetsGoals joint b
meets_more joint a b h meets w closed =
    let start = start_count joint.slots in
    let more : HasNoLess (bag_with start a w) (bag_with start b w) = λ i. omega (arith, found_at_more 0 a b w i (h i)) in
    goals_more joint (bag_with start a w) (bag_with start b w) w w more (λ p e. e) (meets w (Closed-less (steps_of joint) start start a b w more closed))

kept_more : (i : ℕ) (a b : Bool) (xs : List ℕ) → (a ≡ true → b ≡ true) → times_in i (if a then xs else []) ≤ times_in i (if b then xs else [])
kept_more i true b xs h = rw (h refl) (omega arith)
kept_more i false b xs h = omega arith

only_more : (joint : Joint) (table : Placed) (a b : List Bool) → ((p : ℕ) → places_of a p ≡ true → places_of b p ≡ true) → MeetsGoals joint (only a table) → MeetsGoals joint (only b table)
only_more joint table a b h =
    meets_more joint (only a table) (only b table)
    (λ i j. rw (only-at a table j, only-at b table j) (kept_more i (places_of a j) (places_of b j) (numbers_at table j) (h j)))

-- ---- kept places

set_false : (kept : List Bool) (q p : ℕ) → places_of (set kept q false) p ≡ true → (p ≢ q) × (places_of kept p ≡ true)
set_false kept q p e = elim (cases_eq p q) [
  | inl here ↦ elim (cases_lt q (length kept)) [
    | inl within ↦ absurd (true≢false (sym e ∙ ap (places_of (set kept q false)) here ∙ get_or-set_same kept q false false within))
    | inr past ↦ absurd (true≢false (sym e ∙ ap (places_of (set kept q false)) here ∙ get_or_past (set kept q false) q false (omega (arith, length-set kept q false))))
  ]
  | inr other ↦ (other, sym (get_or-set_other kept q p false false other) ∙ e)
]

after_shrinks : (slot : Option ℕ) (kept : List Bool) (q p : ℕ) → places_of (after slot kept q) p ≡ true → places_of kept p ≡ true
after_shrinks None kept q p e = (set_false kept q p e).1
after_shrinks (Some s) kept q p e = e

thinned_shrinks : (joint : Joint) (table : Placed) (places : List ℕ) (first kept : List Bool) (p : ℕ) → IsThinned joint table places first kept → places_of kept p ≡ true → places_of first p ≡ true
thinned_shrinks joint table [] first kept p t e = ap (λ ks. places_of ks p) (sym t) ∙ e
thinned_shrinks joint table (q ∷ places) first kept p t e =
    thinned_shrinks joint table places first t.0 p t.1 (after_shrinks t.2.slot t.0 q p (ap (λ ks. places_of ks p) (sym t.2.is) ∙ e))

-- with a place set to false less is kept
set_more : (a b : List Bool) (p : ℕ) → ((q : ℕ) → places_of a q ≡ true → places_of b q ≡ true) → (q : ℕ) → places_of (set a p false) q ≡ true → places_of (set b p false) q ≡ true
set_more a b p h q e =
    let parts = set_false a p q e in
    get_or-set_other b p q false false parts.0 ∙ h q parts.1

needed_here : (joint : Joint) (table : Placed) (slot : Option ℕ) (mid : List Bool) (p : ℕ) → IsFirstUnmet joint (only (set mid p false) table) slot → places_of (after slot mid p) p ≡ true
    → MeetsGoals joint (only (set (after slot mid p) p false) table) → ⊥
needed_here joint table None mid p unmet e meets = (set_false mid p p e).0 refl
needed_here joint table (Some s) mid p unmet e meets =
    let none = least_of_met joint (only (set mid p false) table) unmet.reached unmet.least meets in
    let differ : Some s ≡ None = unmet.unmet ∙ none in cc

-- each kept place that was asked is needed
needed : (joint : Joint) (table : Placed) (places : List ℕ) (first kept : List Bool) (p : ℕ) → IsThinned joint table places first kept → is_among places p ≡ true → places_of kept p ≡ true
    → MeetsGoals joint (only (set kept p false) table) → ⊥
needed joint table [] first kept p t among e meets = true≢false (sym among)
needed joint table (q ∷ places) first kept p t among e meets =
    let asked = t.2 in
    let still : places_of (after asked.slot t.0 q) p ≡ true = ap (λ ks. places_of ks p) (sym asked.is) ∙ e in
    elim (or_cases (eqb q p) (is_among places p) among) [
      | inl here ↦
          let same : q ≡ p = eqb-true q p here in
          needed_here joint table asked.slot t.0 p
          (subst (λ k. IsFirstUnmet joint (only (set t.0 k false) table) asked.slot) same asked.unmet)
          (subst (λ k. places_of (after asked.slot t.0 k) p ≡ true) same still)
          (subst (λ k. MeetsGoals joint (only (set (after asked.slot t.0 k) p false) table)) same (subst (λ ks. MeetsGoals joint (only (set ks p false) table)) asked.is meets))
      | inr later ↦
          needed joint table places first t.0 p t.1 later (after_shrinks asked.slot t.0 q p still)
          (only_more joint table (set kept p false) (set t.0 p false) (set_more kept t.0 p (λ r k. after_shrinks asked.slot t.0 q r (ap (λ ks. places_of ks r) (sym asked.is) ∙ k))) meets)
    ]

-- ---- entries

passes : {A : Type 0} (f : A → Bool) (xs : List A) → All (λ x. f x ≡ true) (filter f xs)
passes f [] = All-nil (λ x. f x ≡ true)
passes f (x ∷ xs) = elim (cases_Bool (f x)) [
  | inl pass ↦ rw pass (All-cons (λ y. f y ≡ true) x (filter f xs) pass (passes f xs))
  | inr fail ↦ rw fail (passes f xs)
]

all_pass : (f : Spot → Bool) (spheres : List (List Spot)) → All (All (λ s. f s ≡ true)) (map (filter f) spheres)
all_pass f [] = All-nil (All (λ s. f s ≡ true))
all_pass f (s ∷ spheres) = All-cons (All (λ s. f s ≡ true)) (filter f s) (map (filter f) spheres) (passes f s) (all_pass f spheres)

kept_entries : (slots : List Slot) (kept : List Bool) (entries : List Spot) (p : ℕ) → All (λ s. is_kept slots kept s ≡ true) entries → is_listed slots entries p ≡ true → places_of kept p ≡ true
kept_entries slots kept [] p all e = absurd (true≢false (sym e))
kept_entries slots kept (s ∷ entries) p all e = elim (or_cases (eqb (spot_place slots s) p) (is_listed slots entries p) e) [
  | inl here ↦ subst (λ q. places_of kept q ≡ true) (eqb-true (spot_place slots s) p here) (all 0 s (omega arith))
  | inr later ↦ kept_entries slots kept entries p (λ k d h. all (suc k) d (omega (arith, h))) later
]

either : (b : Bool) (xs : List ℕ) → xs ≡ [] → (if b then xs else []) ≡ []
either true xs e = e
either false xs e = refl

others-at : (slots : List Slot) (table : Placed) (entries : List Spot) (place p : ℕ) → numbers_at (others slots table entries place) p ≡ other_at slots table entries place p
others-at slots table entries place p = elim (cases_lt p (length table)) [
  | inl within ↦ get_or-map-range_with_len (other_at slots table entries place) 0 (length table) p p [] within (omega arith)
  | inr past ↦
      get_or_past (others slots table entries place) p [] (omega (arith, length-map-range_with_len (other_at slots table entries place) 0 (length table)))
      ∙ sym (either (is_listed slots entries p && not (eqb p place)) (numbers_at table p) (get_or_past table p [] past))
]

not_there : (p place : ℕ) → not (eqb p place) ≡ true → p ≢ place
not_there p place e same = let equal = (Decides-eqb p place).1 same in cc

pub none_to_spare : (joint : Joint) (puts : List Put) (spheres played : List (List Spot)) → IsPlaythrough joint puts spheres played → NoneToSpare joint puts played
none_to_spare joint puts spheres played is = λ i d h meets.
    let slots = joint.slots in
    let table = placement_table joint puts in
    let spot = get_or (listed played) i d in
    let p = spot_place slots spot in
    let all_kept : All (λ s. is_kept slots is.kept s ≡ true) (listed played) =
    all_listed (λ s. is_kept slots is.kept s ≡ true) played (subst (All (All (λ s. is_kept slots is.kept s ≡ true))) (sym is.is) (all_pass (is_kept slots is.kept) spheres)) in
    let kept : places_of is.kept p ≡ true = all_kept i d h in
    let places : List ℕ = map (spot_place slots) (listed spheres) in
    let among : is_among places p ≡ true = sym (is.entries p) ∙ thinned_shrinks joint table places is.first is.kept p is.thinned kept in
    let stay : (q : ℕ) → (is_listed slots (listed played) q && not (eqb q p)) ≡ true → places_of (set is.kept p false) q ≡ true = λ q e.
    let parts = and_parts (is_listed slots (listed played) q) (not (eqb q p)) e in
    get_or-set_other is.kept p q false false (not_there q p parts.1) ∙ kept_entries slots is.kept (listed played) q all_kept parts.0 in
    needed joint table places is.first is.kept p is.thinned among kept
    (meets_more joint (others slots table (listed played) p) (only (set is.kept p false) table)
    (λ j q. rw (others-at slots table (listed played) p q, only-at (set is.kept p false) table q)
    (kept_more j (is_listed slots (listed played) q && not (eqb q p)) (places_of (set is.kept p false) q) (numbers_at table q) (stay q))) meets)
