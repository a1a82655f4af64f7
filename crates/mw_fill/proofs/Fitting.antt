-- The first location that fits, and what is held as one item more is put.
use Rattle.std.proofs.Common.{◌≡◌, ℕ, zero, suc, ◌<◌, ◌&&◌, Bool, true, cond, drop, List, [], ◌∷◌, ◌++◌, Option, Some, None, All, length, get_or, set, length-set, refl, sym, ap, ap₂, subst, ◌∙◌, inl, inr, arith}
use Rattle.std.specs.Prelude.{find, is_none}
use Rattle.std.proofs.lemmas.Bool.{cases_Bool, cases_eq, and_left, and_parts, cond-true, cond-false}
use Rattle.std.proofs.lemmas.Bool.Decides.{Decides-eqb}
use Rattle.std.proofs.lemmas.List.{get_or-set_same, get_or-set_other}
use Rattle.std.proofs.lemmas.List.Elements.{All-push}
use Rattle.mw_multi.specs.Joint.{Joint}
use Rattle.mw_multi.specs.Placement.{Put, PutKept, what_stands, AreStanding}
use Rattle.mw_fill.specs.Openings.{Opening}
use Rattle.mw_multi.proofs.WhatStands.{stands_more, stands_still, differ}
use Rattle.mw_fill.specs.Fill.{is_fit, first_fit}
use Rattle.mw_fill.specs.Kept.{IsHeldFor, AreTaken, is_open_in}

-- ---- the first element that passes

pub find_same : {X : Type 0} (f g : X → Bool) (xs : List X) → ((x : X) → f x ≡ g x) → find f xs ≡ find g xs
find_same f g [] h = refl
find_same f g (x ∷ xs) h = ap₂ (λ b rest. cond b (Some x) rest) (h x) (find_same f g xs h)

pub find_all : {X : Type 0} (P : X → Type 0) (f : X → Bool) (xs : List X) (x : X) → All P xs → find f xs ≡ Some x → P x
find_all P f [] x h e = cc
find_all P f (y ∷ xs) x h e = elim (cases_Bool (f y)) [
  | inl here ↦ let s : Some y ≡ Some x = sym (cond-true (f y) (Some y) (find f xs) here) ∙ e in let same : y ≡ x = cc in subst P same (h 0 y (omega arith))
  | inr past ↦ find_all P f xs x (λ i d l. h (suc i) d (omega arith)) (sym (cond-false (f y) (Some y) (find f xs) past) ∙ e)
]

pub find_passes : {X : Type 0} (f : X → Bool) (xs : List X) (x : X) → find f xs ≡ Some x → f x ≡ true
find_passes f [] x e = cc
find_passes f (y ∷ xs) x e = elim (cases_Bool (f y)) [
  | inl here ↦ let s : Some y ≡ Some x = sym (cond-true (f y) (Some y) (find f xs) here) ∙ e in let same : y ≡ x = cc in subst (λ z. f z ≡ true) same here
  | inr past ↦ find_passes f xs x (sym (cond-false (f y) (Some y) (find f xs) past) ∙ e)
]

-- ---- what is held

-- the first free one is none of those that are taken
pub past_taken : (test : Opening → Bool) (held : List (Option Put)) (openings : List Opening) (n : ℕ) → AreTaken held openings n → find (is_open_in test held) openings ≡ find (is_open_in test held) (drop n openings)
past_taken test held openings zero taken = refl
past_taken test held [] (suc n) taken = refl
past_taken test held (s ∷ openings) (suc n) taken =
    cond-false (is_open_in test held s) (Some s) (find (is_open_in test held) openings) (and_left (is_none (get_or held s.place None)) (test s) (taken 0 s (omega arith) (omega arith)))
    ∙ past_taken test held openings n (λ k d h l. taken (suc k) d (omega arith) (omega arith))

-- what is taken stays so where one more is put
pub still_taken : (held : List (Option Put)) (openings : List Opening) (n place : ℕ) (put : Put) → place < length held → AreTaken held openings n → AreTaken (set held place (Some put)) openings n
still_taken held openings n place put within taken k d h l =
    let q = (get_or openings k d).place in
    elim (cases_eq q place) [
      | inl same ↦ ap (λ p. is_none (get_or (set held place (Some put)) p None)) same ∙ ap is_none (get_or-set_same held place (Some put) None within)
      | inr other ↦ ap is_none (get_or-set_other held place q (Some put) None other) ∙ taken k d h l
    ]

-- the first that is open by the table is the first that fits
pub held_first : (test : Opening → Bool) (puts : List Put) (held : List (Option Put)) (openings : List Opening) → AreStanding puts held → find (is_open_in test held) openings ≡ first_fit test puts openings
held_first test puts held openings h = find_same (is_open_in test held) (is_fit test puts) openings (λ s. ap (λ o. is_none o && test s) (h s.place))

none_there : {X : Type 0} (o : Option X) → is_none o ≡ true → o ≡ None
none_there None e = refl
none_there (Some x) e = cc

-- nothing stands at a location that fits
pub free_there : (test : Opening → Bool) (puts : List Put) (openings : List Opening) (s : Opening) → first_fit test puts openings ≡ Some s → (what_stands puts s.place ≡ None) × (test s ≡ true)
free_there test puts openings s e =
    let parts = and_parts (is_none (what_stands puts s.place)) (test s) (find_passes (is_fit test puts) openings s e) in
    (none_there (what_stands puts s.place) parts.0, parts.1)

pub held_put : (joint : Joint) (puts : List Put) (put : Put) (held : List (Option Put)) → IsHeldFor joint puts held → PutKept joint put → put.place < length held → what_stands puts put.place ≡ None
    → IsHeldFor joint (puts ++ put ∷ []) (set held put.place (Some put))
held_put joint puts put held h kept within free = record {
  size = length-set held put.place (Some put) ∙ h.size;
  entries = λ place. elim (cases_eq put.place place) [
    | inl same ↦
        subst (λ p. get_or (set held put.place (Some put)) p None ≡ what_stands (puts ++ put ∷ []) p) same
        (get_or-set_same held put.place (Some put) None within ∙ sym (stands_more puts put put.place true ((Decides-eqb put.place put.place).1 refl) free))
    | inr other ↦
        get_or-set_other held put.place place (Some put) None (λ e. other (sym e)) ∙ h.entries place ∙ sym (stands_still puts put place (differ put.place place other))
  ];
  kept = All-push (PutKept joint) puts put h.kept kept;
}
