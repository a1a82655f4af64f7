-- Where a copy may stand: what the fill needs to know of `is_allowed`.
use Rattle.std.proofs.Common.{◌≡◌, ℕ, Bool, true, false, ◌&&◌, List, [], ◌∷◌, Option, Some, None, refl, sym, ap, ap₂, subst, ◌∙◌, ◌⊎◌, inl, inr, arith, true≢false}
use Rattle.std.specs.Prelude.{◌||◌, find, is_none, slice_index_or}
use Rattle.std.proofs.lemmas.Bool.{cases_Bool, and_parts, and_from, or_cases, cond-true, cond-false}
use Rattle.mw_rules.specs.Holds.{Bag, Places}
use Rattle.mw_multi.specs.Joint.{Joint}
use Rattle.mw_multi.specs.Placement.{Put}
use Rattle.mw_reach.specs.Required.{is_required, Required}
use Rattle.mw_reach.proofs.Requiring.{required_more}
use Rattle.mw_fill.specs.Copies.{ItemCopy}
use Rattle.mw_fill.specs.Openings.{Opening, accepts}
use Rattle.mw_fill.specs.Fill.{is_minimal_at, is_missable, is_allowed_if, is_allowed, is_fit, is_free, first_fit}
use Rattle.mw_fill.specs.Kept.{is_open_in}
use Rattle.mw_fill.proofs.Fitting.{find_same, find_passes}

-- ---- the first element that passes a narrower test

-- the first element that passes one test is the first that passes a narrower one, where it passes
-- that
pub find_narrower : {X : Type 0} (f g : X → Bool) (xs : List X) (x : X) → ((y : X) → g y ≡ true → f y ≡ true) → find f xs ≡ Some x → g x ≡ true → find g xs ≡ Some x
find_narrower f g [] x h e p = e
find_narrower f g (y ∷ xs) x h e p = elim (cases_Bool (f y)) [
  | inl here ↦
      let s : Some y ≡ Some x = sym (cond-true (f y) (Some y) (find f xs) here) ∙ e in
      let same : y ≡ x = cc in
      cond-true (g y) (Some y) (find g xs) (subst (λ z. g z ≡ true) (sym same) p) ∙ s
  | inr past ↦
      let rest = find_narrower f g xs x h (sym (cond-false (f y) (Some y) (find f xs) past) ∙ e) p in
      elim (cases_Bool (g y)) [
        | inl passes ↦ absurd (true≢false (sym (h y passes) ∙ past))
        | inr fails ↦ cond-false (g y) (Some y) (find g xs) fails ∙ rest
      ]
]

-- where none passes a test, none passes a narrower one
none_narrower : {X : Type 0} (f g : X → Bool) (xs : List X) → ((y : X) → g y ≡ true → f y ≡ true) → find f xs ≡ None → find g xs ≡ None
none_narrower f g [] h e = refl
none_narrower f g (y ∷ xs) h e = elim (cases_Bool (f y)) [
  | inl here ↦ let s : Some y ≡ None = sym (cond-true (f y) (Some y) (find f xs) here) ∙ e in cc
  | inr past ↦
      let rest = none_narrower f g xs h (sym (cond-false (f y) (Some y) (find f xs) past) ∙ e) in
      elim (cases_Bool (g y)) [
        | inl passes ↦ absurd (true≢false (sym (h y passes) ∙ past))
        | inr fails ↦ cond-false (g y) (Some y) (find g xs) fails ∙ rest
      ]
]

-- of those where nothing is held
free_narrower : (held : List (Option Put)) (f g : Opening → Bool) → ((s : Opening) → g s ≡ true → f s ≡ true) → (s : Opening) → is_open_in g held s ≡ true → is_open_in f held s ≡ true
free_narrower held f g h s e =
    let free = is_none (slice_index_or held s.place None) in
    let parts = and_parts free (g s) e in
    and_from free (f s) parts.0 (h s parts.1)

-- ---- what is allowed

or_left : (a b : Bool) → a ≡ true → (a || b) ≡ true
or_left a b e = ap (λ c. c || b) e

module _ (joint : Joint) (w : Places) (copy : ItemCopy) where
  pub allowed_accepts : (missed : Bool) (s : Opening) → is_allowed_if joint missed w copy s ≡ true → accepts copy s ≡ true
  allowed_accepts missed s e = (and_parts (accepts copy s) (w s.place || (missed && is_minimal_at joint.slots s.slot)) e).0

  -- a reached location that accepts the copy is allowed
  pub reached_allowed : (missed : Bool) (s : Opening) → accepts copy s ≡ true → w s.place ≡ true → is_allowed_if joint missed w copy s ≡ true
  reached_allowed missed s e there =
      and_from (accepts copy s) (w s.place || (missed && is_minimal_at joint.slots s.slot)) e (or_left (w s.place) (missed && is_minimal_at joint.slots s.slot) there)

  -- what is allowed anyhow is allowed where the copy may be missed
  widest : (missed : Bool) (s : Opening) → is_allowed_if joint missed w copy s ≡ true → is_allowed_if joint true w copy s ≡ true
  widest true s e = e
  widest false s e =
      let parts = and_parts (accepts copy s) (w s.place || (false && is_minimal_at joint.slots s.slot)) e in
      reached_allowed true s parts.0 (elim (or_cases (w s.place) (false && is_minimal_at joint.slots s.slot) parts.1) [ inl there ↦ there | inr never ↦ absurd (true≢false (sym never)) ])

  -- it is reached, or the copy may be missed
  pub reached_or_missed : (missed : Bool) (s : Opening) → is_allowed_if joint missed w copy s ≡ true → (w s.place ≡ true) ⊎ (missed ≡ true)
  reached_or_missed missed s e = elim (or_cases (w s.place) (missed && is_minimal_at joint.slots s.slot) (and_parts (accepts copy s) (w s.place || (missed && is_minimal_at joint.slots s.slot)) e).1) [
    | inl there ↦ inl there
    | inr far ↦ inr (and_parts missed (is_minimal_at joint.slots s.slot) far).0
  ]

  module _ (held : List (Option Put)) (openings : List Opening) where
    abbrev first_if : Bool → Option Opening
    first_if missed = find (is_open_in (is_allowed_if joint missed w copy) held) openings

    -- where none is allowed though the copy may be missed, none is otherwise
    pub none_anyhow : (missed : Bool) → first_if true ≡ None → first_if missed ≡ None
    none_anyhow missed e =
        none_narrower (is_open_in (is_allowed_if joint true w copy) held) (is_open_in (is_allowed_if joint missed w copy) held) openings
        (free_narrower held (is_allowed_if joint true w copy) (is_allowed_if joint missed w copy) (widest missed)) e

    -- the first one that is allowed where the copy may be missed is so otherwise, if it is reached
    pub reached_anyhow : (missed : Bool) (s : Opening) → first_if true ≡ Some s → w s.place ≡ true → first_if missed ≡ Some s
    reached_anyhow missed s e there =
        let free = is_none (slice_index_or held s.place None) in
        let passes = and_parts free (is_allowed_if joint true w copy s) (find_passes (is_open_in (is_allowed_if joint true w copy) held) openings s e) in
        find_narrower (is_open_in (is_allowed_if joint true w copy) held) (is_open_in (is_allowed_if joint missed w copy) held) openings s
        (free_narrower held (is_allowed_if joint true w copy) (is_allowed_if joint missed w copy) (widest missed)) e
        (and_from free (is_allowed_if joint missed w copy s) passes.0 (reached_allowed missed s (allowed_accepts true s passes.1) there))

    -- the first location that is free and accepts the copy is the first one that is allowed, if it
    -- is reached
    pub sure_anyhow : (missed : Bool) (s : Opening) → find (is_open_in (accepts copy) held) openings ≡ Some s → w s.place ≡ true → first_if missed ≡ Some s
    sure_anyhow missed s e there =
        let free = is_none (slice_index_or held s.place None) in
        let passes = and_parts free (accepts copy s) (find_passes (is_open_in (accepts copy) held) openings s e) in
        find_narrower (is_open_in (accepts copy) held) (is_open_in (is_allowed_if joint missed w copy) held) openings s
        (free_narrower held (accepts copy) (is_allowed_if joint missed w copy) (allowed_accepts missed)) e
        (and_from free (is_allowed_if joint missed w copy s) passes.0 (reached_allowed missed s passes.1 there))

-- ---- by items in hand

-- a copy at an allowed location that isn't reached: what is required holds
pub reached_or_required : (joint : Joint) (bag : Bag) (w : Places) (copy : ItemCopy) (s : Opening) → is_allowed joint bag w copy s ≡ true → (w s.place ≡ true) ⊎ Required joint bag w
reached_or_required joint bag w copy s e = elim (reached_or_missed joint w copy (is_missable joint copy && is_required joint bag w) s e) [
  | inl there ↦ inl there
  | inr missed ↦ inr (and_parts (is_missable joint copy) (is_required joint bag w) missed).1
]

both_or_none : (a b : Bool) → (a ≡ true → b ≡ true) → (b ≡ true → a ≡ true) → a ≡ b
both_or_none true b h k = sym (h refl)
both_or_none false true h k = k refl
both_or_none false false h k = refl

required_alike : (joint : Joint) (a b : Bag) (v w : Places) → ((i : ℕ) → a i ≡ b i) → ((p : ℕ) → v p ≡ w p) → is_required joint a v ≡ is_required joint b w
required_alike joint a b v w items places =
    both_or_none (is_required joint a v) (is_required joint b w)
    (required_more joint a b v w (λ i. omega (arith, items i)) (λ p e. sym (places p) ∙ e))
    (required_more joint b a w v (λ i. omega (arith, items i)) (λ p e. places p ∙ e))

-- with as many of each item, and the same places
pub allowed_alike : (joint : Joint) (a b : Bag) (v w : Places) (copy : ItemCopy) → ((i : ℕ) → a i ≡ b i) → ((p : ℕ) → v p ≡ w p) → (s : Opening) → is_allowed joint a v copy s ≡ is_allowed joint b w copy s
allowed_alike joint a b v w copy items places s =
    ap₂ (λ there required. accepts copy s && (there || ((is_missable joint copy && required) && is_minimal_at joint.slots s.slot))) (places s.place) (required_alike joint a b v w items places)

-- so the same location is the first that fits
pub first_alike : (joint : Joint) (a b : Bag) (v w : Places) (copy : ItemCopy) (puts : List Put) (openings : List Opening) → ((i : ℕ) → a i ≡ b i) → ((p : ℕ) → v p ≡ w p)
    → first_fit (is_allowed joint a v copy) puts openings ≡ first_fit (is_allowed joint b w copy) puts openings
first_alike joint a b v w copy puts openings items places =
    find_same (is_fit (is_allowed joint a v copy) puts) (is_fit (is_allowed joint b w copy) puts) openings (λ s. ap (λ c. is_free puts s && c) (allowed_alike joint a b v w copy items places s))
