-- The spheres of a placement that can be beaten show it.
use Rattle.std.proofs.Common.{◌≡◌, ◌≢◌, ℕ, suc, ◌+◌, ◌<◌, ◌≤◌, Bool, true, false, ◌&&◌, not, eqb, List, [], ◌∷◌, ◌++◌, length, All, refl, sym, ap, subst, ◌∙◌, inl, inr, arith}
use Rattle.std.specs.Prelude.{filter, nat_lt}
use Rattle.std.proofs.lemmas.Bool.{true≢false, cases_Bool, cases_eq, cases_lt, or_cases, eqb-true, eq-eqb, ne_eqb}
use Rattle.std.proofs.lemmas.List.{append-nil, append_assoc, nil_from_length}
use Rattle.std.proofs.lemmas.List.Concat.{flat_map-cons}
use Rattle.std.proofs.lemmas.List.Elements.{All-nil, All-cons}
use Rattle.mw_model.specs.Seed.{Spot}
use Rattle.mw_rules.specs.Holds.{Places}
use Rattle.mw_rules.specs.Laws.{HasNoLess, IsPartOf}
use Rattle.mw_multi.specs.Joint.{Slot, Joint, IsJoint}
use Rattle.mw_multi.specs.Bags.{start_count}
use Rattle.mw_multi.specs.Events.{with_events}
use Rattle.mw_multi.specs.Placement.{Put, IsPlacement, numbers_at, standing}
use Rattle.mw_multi.specs.Steps.{steps_of}
use Rattle.mw_reach.specs.Reach.{Placed, times_in, found, found_from, bag_with}
use Rattle.mw_reach.specs.Required.{IsBeatable}
use Rattle.mw_reach.proofs.Found.{Adds, found-Adds, found_more}
use Rattle.mw_reach.proofs.Items.{times_in-append}
use Rattle.mw_reach.proofs.Requiring.{required_more}
use Rattle.mw_reach.proofs.SameLeast.{Closed-less}
use Rattle.mw_spheres.specs.Spots.{spot_place, spots_of, is_listed, placement_table, holds_progression, items_at}
use Rattle.mw_spheres.specs.Spheres.{hand_of, is_due, IsSphere, AreSpheres, listed, ShowsRequired}
use Rattle.mw_spheres.specs.Laws.{SpheresShow}
use Rattle.mw_spheres.proofs.Reaching.{spot_there, stands_somewhere, with_events_kept}
use Rattle.mw_spheres.proofs.Hand.{table_entry}

-- ---- after the last sphere none is due

last_sphere : (joint : Joint) (table : Placed) (earlier : List Spot) (spheres : List (List Spot)) → AreSpheres joint table earlier spheres → IsSphere joint table (earlier ++ listed spheres) []
last_sphere joint table earlier [] is = subst (λ es. IsSphere joint table es []) (sym (append-nil earlier)) is
last_sphere joint table earlier (s ∷ spheres) is =
    let joined : (earlier ++ s) ++ listed spheres ≡ earlier ++ listed (s ∷ spheres) = append_assoc earlier s (listed spheres) ∙ ap (λ es. earlier ++ es) (sym (flat_map-cons (λ (t : List Spot). t) s spheres)) in
    subst (λ es. IsSphere joint table es []) joined (last_sphere joint table (earlier ++ s) spheres is.2)

none_passes : {A : Type 0} (f : A → Bool) (xs : List A) → [] ≡ filter f xs → All (λ x. f x ≡ false) xs
none_passes f [] e = All-nil (λ x. f x ≡ false)
none_passes f (x ∷ xs) e = elim (cases_Bool (f x)) [
  | inl pass ↦ let some : [] ≡ x ∷ filter f xs = rw pass at e in cc
  | inr fail ↦ All-cons (λ y. f y ≡ false) x xs fail (none_passes f xs (rw fail at e))
]

-- ---- what is found stands at listed locations

found_nowhere : (k : ℕ) (table : Placed) (u : Places) (i : ℕ) → ((j : ℕ) → u (k + j) ≡ true → numbers_at table j ≡ []) → found_from k table u i ≡ 0
found_nowhere k [] u i h = refl
found_nowhere k (is ∷ table) u i h =
    let rest = found_nowhere (suc k) table u i (λ j e. let at : suc k + j ≡ k + suc j = omega arith in h (suc j) (sym (ap u at) ∙ e)) in
    elim (cases_Bool (u k)) [
      | inl reached ↦
          let at : k ≡ k + 0 = omega arith in
          let nothing : is ≡ [] = h 0 (sym (ap u at) ∙ reached) in
          let none : times_in i is ≡ 0 = ap (times_in i) nothing in
          rw (reached, none, rest) (omega arith)
      | inr unreached ↦ rw (unreached, rest) (omega arith)
    ]

-- the list without a place
abbrev but : Places → ℕ → Places
but u q p = u p && not (eqb q p)

and_false : (b : Bool) → (b && false) ≡ false
and_false true = refl
and_false false = refl

and_true : (b : Bool) → (b && true) ≡ b
and_true true = refl
and_true false = refl

module _ (u : Places) (q : ℕ) where
  but_here : but u q q ≡ false
  but_here = ap (λ b. u q && not b) (eq-eqb q q refl) ∙ and_false (u q)

  but_other : (p : ℕ) → p ≢ q → but u q p ≡ u p
  but_other p other = ap (λ b. u p && not b) (ne_eqb q p (λ e. other (sym e))) ∙ and_true (u p)

  adds : u q ≡ true → Adds q (but u q) u
  adds e = record { new = but_here; added = e; others = but_other }

  less_one : (table : Placed) (i : ℕ) → found table u i ≤ found table (but u q) i + times_in i (numbers_at table q)
  less_one table i = elim (cases_Bool (u q)) [
    | inl reached ↦ omega (arith, found-Adds q table (but u q) u i (adds reached))
    | inr unreached ↦
        let part : IsPartOf u (but u q) = λ p e. elim (cases_eq p q) [
          | inl here ↦ absurd (true≢false (sym e ∙ ap u here ∙ unreached))
          | inr other ↦ but_other p other ∙ e
        ] in
        omega (arith, found_more 0 table u (but u q) i part)
  ]

-- where something stands only at these locations no more is found than they hold
found_listed : (slots : List Slot) (table : Placed) (spots : List Spot) (u : Places) (i : ℕ) → ((p : ℕ) → u p ≡ true → 0 < length (numbers_at table p) → is_listed slots spots p ≡ true) → found table u i ≤ times_in i (items_at slots table spots)
found_listed slots table [] u i cover =
    omega (
      arith,
      found_nowhere 0 table u i (λ j e. elim (cases_lt 0 (length (numbers_at table j))) [
        | inl some ↦ let at : 0 + j ≡ j = omega arith in absurd (true≢false (sym (cover j (sym (ap u at) ∙ e) some)))
        | inr none ↦ nil_from_length (numbers_at table j) (omega arith)
      ]),
    )
found_listed slots table (s ∷ spots) u i cover =
    let q = spot_place slots s in
    let rest = found_listed slots table spots (but u q) i (λ p e some. elim (cases_eq p q) [
      | inl here ↦ absurd (true≢false (sym e ∙ ap (but u q) here ∙ but_here u q))
      | inr other ↦ elim (or_cases (eqb q p) (is_listed slots spots p) (cover p (sym (but_other u q p other) ∙ e) some)) [
        | inl first ↦ absurd (other (sym (eqb-true q p first)))
        | inr later ↦ later
      ]
    ]) in
    let items : times_in i (items_at slots table (s ∷ spots)) ≡ times_in i (numbers_at table q) + times_in i (items_at slots table spots) =
    ap (times_in i) (flat_map-cons (λ t. numbers_at table (spot_place slots t)) s spots) ∙ times_in-append i (numbers_at table q) (items_at slots table spots) in
    omega (arith, less_one u q table i, rest, items)

-- ---- the whole

undue : (a b c : Bool) → ((a && b) && not c) ≡ false → a ≡ true → b ≡ true → c ≡ true
undue true true true e x y = refl
undue true true false e x y = absurd (true≢false e)
undue true false c e x y = absurd (true≢false (sym y))
undue false b c e x y = absurd (true≢false (sym x))

some_number : (n : ℕ) → 0 < n → nat_lt 0 n ≡ true
some_number n h = grind arith

module _ (joint : Joint) (puts : List Put) (kept : IsJoint joint) (placement : IsPlacement joint puts) (spots : List Spot) (last : IsSphere joint (placement_table joint puts) spots []) where
  abbrev table : Placed
  table = placement_table joint puts

  covers : (p : ℕ) → last.reached p ≡ true → 0 < length (numbers_at table p) → is_listed joint.slots spots p ≡ true
  covers p reached some =
      let stands : 0 < length (standing joint (with_events joint puts) p) = table_entry joint (with_events joint puts) p some in
      let site = stands_somewhere joint (with_events joint puts) p (with_events_kept joint puts kept placement) stands in
      let there = spot_there joint (λ s. is_due joint.slots table last.reached (is_listed joint.slots spots) s ≡ false) p kept
      (none_passes (is_due joint.slots table last.reached (is_listed joint.slots spots)) (spots_of joint) last.due) site in
      undue (last.reached p) (holds_progression table p) (is_listed joint.slots spots p)
      (subst (λ q. ((last.reached q && holds_progression table q) && not (is_listed joint.slots spots q)) ≡ false) there.place there.holds) reached (some_number (length (numbers_at table p)) some)

  no_less : HasNoLess (bag_with (start_count joint.slots) table last.reached) (bag_with (hand_of joint table spots) [] last.reached)
  no_less i = omega (arith, found_listed joint.slots table spots last.reached i covers)

  pub shown : IsBeatable joint table → ShowsRequired joint table spots
  shown beatable =
      let start = start_count joint.slots in
      let w = last.reached in
      let there = beatable w (Closed-less (steps_of joint) start (hand_of joint table spots) table [] w no_less last.least.closed) in
      record {
        reached = w;
        least = last.least;
        required = required_more joint (bag_with start table w) (hand_of joint table spots) w w (λ i. omega (arith, no_less i)) (λ p e. e) there;
      }

pub spheres_show : SpheresShow
spheres_show joint puts spheres kept placement beatable is = shown joint puts kept placement (listed spheres) (last_sphere joint (placement_table joint puts) [] spheres is) beatable
