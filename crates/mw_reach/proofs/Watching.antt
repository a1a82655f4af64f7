-- Tables with one step more.
use Rattle.std.proofs.Common.{◌≡◌, ℕ, ◌+◌, ◌-◌, ◌<◌, ◌≤◌, Bool, true, false, ◌&&◌, eqb, List, [], ◌∷◌, ◌++◌, Some, None, length, refl, sym, ap, ◌∙◌, inl, inr, arith}
use Rattle.std.specs.Prelude.{nat_le}
use Rattle.std.proofs.lemmas.Bool.{cases_Bool, cases_lt, cases_order, eq-eqb, ne_eqb, and_right, or_left, or_right}
use Rattle.std.proofs.lemmas.List.{length_push, get_or_append_left, get_or_push, get_or_past}
use Rattle.std.proofs.lemmas.List.Folds.{list_any-append}
use Rattle.mw_rules.specs.Names.{is_among, names_item, names_place}
use Rattle.mw_multi.specs.Placement.{numbers_at}
use Rattle.mw_multi.specs.Steps.{Step}
use Rattle.mw_reach.specs.Reach.{one_if, times_in}
use Rattle.mw_reach.specs.Bound.{names_place_at, names_item_at, waits_for_place}
use Rattle.mw_reach.specs.Building.{StartsThere, StartsNowhere, AddsStep}
use Rattle.mw_reach.specs.Tables.{no_step, step_at, IsNoted, shifted, but_at}
use Rattle.mw_reach.specs.declared.row.Rows.{Rows}
use Rattle.mw_reach.proofs.Noting.{nothing_noted, once_shifted}

step_before : (steps : List Step) (step : Step) (n : ℕ) → n < length steps → step_at (steps ++ step ∷ []) n ≡ step_at steps n
step_before steps step n h = get_or_append_left steps (step ∷ []) no_step n h

step_new : (steps : List Step) (step : Step) → step_at (steps ++ step ∷ []) (length steps) ≡ step
step_new steps step = get_or_push steps step no_step (length steps) refl

step_past : (steps : List Step) (n : ℕ) → length steps ≤ n → step_at steps n ≡ no_step
step_past steps n h = get_or_past steps n no_step h

past_place : (p : ℕ) → one_if (waits_for_place no_step p) ≡ 0
past_place p = ap one_if (and_right (nat_le 0 p) false refl)

past_item : (i : ℕ) → one_if (names_item_at no_step i) ≡ 0
past_item i = ap one_if (and_right (nat_le 0 i) false refl)

-- a table whose numbers are right for some steps is right for one more, whose number was noted where the new step is to stand
noted_more : (steps : List Step) (step : Step) (stands : Step → ℕ → Bool) (old new : List (List ℕ)) (more : ℕ → ℕ)
    → ((k : ℕ) → one_if (stands no_step k) ≡ 0) → ((k : ℕ) → more k ≡ one_if (stands step k)) → IsNoted old new (length steps) more
    → ((n k : ℕ) → times_in n (numbers_at old k) ≡ one_if (stands (step_at steps n) k))
    → (n k : ℕ) → times_in n (numbers_at new k) ≡ one_if (stands (step_at (steps ++ step ∷ []) n) k)
noted_more steps step stands old new more none is noted before n k = elim (cases_order n (length steps)) [
  | inl here ↦
      let past : times_in n (numbers_at old k) ≡ 0 = before n k ∙ ap (λ s. one_if (stands s k)) (step_past steps n (omega arith)) ∙ none k in
      let next : step_at (steps ++ step ∷ []) n ≡ step = rw here (step_new steps step) in
      let same : eqb (length steps) n ≡ true = eq-eqb (length steps) n (sym here) in
      noted.times n k ∙ rw (same, next) (omega (arith, is k))
  | inr away ↦
      let other : eqb (length steps) n ≡ false = ne_eqb (length steps) n (λ e. elim away [ inl l ↦ absurd (omega arith) | inr l ↦ absurd (omega arith) ]) in
      let value : times_in n (numbers_at new k) ≡ times_in n (numbers_at old k) = noted.times n k ∙ rw other (omega arith) in
      value ∙ before n k ∙ elim away [
        | inl l ↦ ap (λ s. one_if (stands s k)) (sym (step_before steps step n l))
        | inr l ↦ ap (λ s. one_if (stands s k)) (step_past steps n (omega arith) ∙ sym (step_past (steps ++ step ∷ []) n (omega (arith, length_push steps step))))
      ]
]

-- origins with one step more
nowhere_more : (steps : List Step) (step : Step) (origins new_origins : List ℕ)
    → ((n : ℕ) → is_among origins n ≡ true → is_among new_origins n ≡ true) → (step.from ≡ None → is_among new_origins (length steps) ≡ true)
    → ((n : ℕ) → n < length steps → (step_at steps n).from ≡ None → is_among origins n ≡ true)
    → (n : ℕ) → n < length (steps ++ step ∷ []) → (step_at (steps ++ step ∷ []) n).from ≡ None → is_among new_origins n ≡ true
nowhere_more steps step origins new_origins kept new before n h e = elim (cases_lt n (length steps)) [
  | inl within ↦ kept n (before n within (ap (λ s. s.from) (sym (step_before steps step n within)) ∙ e))
  | inr at ↦
      let here : n ≡ length steps = omega (arith, length_push steps step) in
      let is : step_at (steps ++ step ∷ []) n ≡ step = rw here (step_new steps step) in
      rw here (new (ap (λ s. s.from) (sym is) ∙ e))
]

module _ (from first_place first_item : ℕ) (items places : List ℕ) (step : Step) (s : StartsThere from first_place first_item items places step) where
  places_once : (p : ℕ) → times_in p (shifted first_place places) ≡ one_if (names_place_at step p)
  places_once p =
      once_shifted first_place p places s.names.places_ascend
      ∙ ap (λ b. one_if (nat_le first_place p && b)) (s.names.places_named (p - first_place))
      ∙ ap (λ f. one_if (nat_le f p && names_place step.rule (p - f))) (sym s.place_is)

  pub items_once : (i : ℕ) → times_in i (shifted first_item items) ≡ one_if (names_item_at step i)
  items_once i =
      once_shifted first_item i items s.names.items_ascend
      ∙ ap (λ b. one_if (nat_le first_item i && b)) (s.names.items_named (i - first_item))
      ∙ ap (λ f. one_if (nat_le f i && names_item step.rule (i - f))) (sym s.item_is)

  pub waits_once : (p : ℕ) → one_if (eqb from p) + but_at from (λ j. times_in j (shifted first_place places)) p ≡ one_if (waits_for_place step p)
  waits_once p = rw s.from_is (elim (cases_Bool (eqb from p)) [
    | inl here ↦ rw here refl
    | inr away ↦ rw away (omega (arith, places_once p))
  ])

some_start : (from : ℕ) → Some from ≡ None → ⊥
some_start from e = cc

-- a step that starts at a place
pub watched_there : (from first_place first_item : ℕ) (items places : List ℕ) (old new : Rows) → new.origins ≡ old.origins
    → IsNoted old.by_place new.by_place (length old.rows) (λ k. one_if (eqb from k) + but_at from (λ j. times_in j (shifted first_place places)) k)
    → IsNoted old.by_item new.by_item (length old.rows) (λ k. times_in k (shifted first_item items))
    → AddsStep old new (StartsThere from first_place first_item items places)
watched_there from first_place first_item items places old new same_origins at_places at_items steps step s long w = record {
  nowhere = nowhere_more steps step old.origins new.origins (λ n e. rw same_origins e) (λ e. absurd (some_start from (sym s.from_is ∙ e))) w.nowhere;
  places = noted_more steps step waits_for_place old.by_place new.by_place _ past_place (waits_once from first_place first_item items places step s) (rw long at_places) w.places;
  items = noted_more steps step names_item_at old.by_item new.by_item _ past_item (items_once from first_place first_item items places step s) (rw long at_items) w.items;
}

-- a step from nowhere
pub watched_nowhere : (old new : Rows) → new.origins ≡ old.origins ++ length old.rows ∷ [] → new.by_place ≡ old.by_place → new.by_item ≡ old.by_item → AddsStep old new StartsNowhere
watched_nowhere old new more_origins same_places same_items steps step s long w = record {
  nowhere = nowhere_more steps step old.origins new.origins
      (λ n e. rw more_origins (list_any-append (λ m. eqb m n) old.origins (length old.rows ∷ []) ∙ or_left (is_among old.origins n) _ e))
      (λ e. rw (more_origins, long) (list_any-append (λ m. eqb m (length old.rows)) old.origins (length old.rows ∷ []) ∙ or_right (is_among old.origins (length old.rows)) _ (or_left (eqb (length old.rows) (length old.rows)) false (eq-eqb (length old.rows) (length old.rows) refl))))
      w.nowhere;
  places = noted_more steps step waits_for_place old.by_place new.by_place (λ k. 0) past_place
      (λ p. rw (s.from_is, s.rule_is) (sym (ap one_if (and_right (nat_le step.first_place p) false refl)))) (rw same_places (nothing_noted old.by_place (length steps) (λ k. 0) (λ k. refl))) w.places;
  items = noted_more steps step names_item_at old.by_item new.by_item (λ k. 0) past_item
      (λ i. rw s.rule_is (sym (ap one_if (and_right (nat_le step.first_item i) false refl)))) (rw same_items (nothing_noted old.by_item (length steps) (λ k. 0) (λ k. refl))) w.items;
}
