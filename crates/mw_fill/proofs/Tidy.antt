-- What stands at each place in the end.
use Rattle.std.proofs.Common.{◌≡◌, ℕ, suc, ◌<◌, Bool, true, false, cond, List, [], ◌∷◌, ◌++◌, Option, Some, None, MatchOption, All, map, refl, sym, ap, subst, ◌∙◌, inl, inr, arith, append-nil}
use Rattle.std.specs.Prelude.{filter, flat_map, ◌==◌, ◌||◌}
use Rattle.std.specs.List.{list_any}
use Rattle.std.proofs.lemmas.Bool.{cases_Bool, cond-true, cond-false}
use Rattle.std.proofs.lemmas.Bool.Decides.{Decides-eqb}
use Rattle.mw_multi.specs.Joint.{Joint}
use Rattle.mw_multi.specs.Placement.{Put, put_numbers, stands_at, standing, what_stands}
use Rattle.mw_multi.proofs.Standing.{standing_push}
use Rattle.mw_reach.specs.Reach.{bag_with}
use Rattle.mw_fill.specs.Copies.{ItemCopy, copy_numbers}
use Rattle.mw_fill.specs.Openings.{Opening, accepts}
use Rattle.mw_fill.specs.Fill.{filled, stuck_with, put_of, first_fit, or_stuck, in_hand, is_allowed, FillRun, placed_anywhere}
use Rattle.mw_fill.specs.Try.{filler_at, or_filler, end_put}
use Rattle.mw_multi.proofs.WhatStands.{stands_more, stands_still}
use Rattle.mw_fill.proofs.Fitting.{find_all, free_there}
use Rattle.mw_fill.proofs.Ascending.{Rises, place_of, end_place}

-- the numbers of what stands there
abbrev pub numbers_held : Joint → Option Put → List ℕ
numbers_held joint None = []
numbers_held joint (Some put) = put_numbers joint put

-- one of the locations is at the place
abbrev pub is_opening : List Opening → ℕ → Bool
is_opening openings place = list_any (λ s. s.place == place) openings

-- each item stands alone, at one of the locations
pub record IsTidy (joint : Joint) (whole : List Opening) (puts : List Put) : Type 0 where
  pub alone : (place : ℕ) → standing joint puts place ≡ numbers_held joint (what_stands puts place)
  pub elsewhere : (place : ℕ) → is_opening whole place ≡ false → what_stands puts place ≡ None

pub tidy_nothing : (joint : Joint) (whole : List Opening) → IsTidy joint whole []
tidy_nothing joint whole = record { alone = λ place. refl; elsewhere = λ place e. refl }

put_alone : (joint : Joint) (puts : List Put) (put : Put) (place : ℕ) (b : Bool) → (put.place == place) ≡ b → standing joint puts place ≡ numbers_held joint (what_stands puts place)
    → what_stands puts put.place ≡ None → standing joint (puts ++ put ∷ []) place ≡ numbers_held joint (what_stands (puts ++ put ∷ []) place)
put_alone joint puts put place true e h free =
    let same : put.place ≡ place = (Decides-eqb put.place place).0 e in
    let nothing : what_stands puts place ≡ None = subst (λ p. what_stands puts p ≡ None) same free in
    standing_push joint puts put place ∙ ap (λ b. standing joint puts place ++ cond b (put_numbers joint put) []) e
    ∙ ap (λ xs. xs ++ put_numbers joint put) (h ∙ ap (numbers_held joint) nothing)
    ∙ sym (ap (numbers_held joint) (stands_more puts put place true e nothing))
put_alone joint puts put place false e h free =
    standing_push joint puts put place ∙ ap (λ b. standing joint puts place ++ cond b (put_numbers joint put) []) e
    ∙ append-nil (standing joint puts place) ∙ h ∙ sym (ap (numbers_held joint) (stands_still puts put place e))

put_elsewhere : (whole : List Opening) (puts : List Put) (put : Put) (place : ℕ) (b : Bool) → (put.place == place) ≡ b → is_opening whole put.place ≡ true → is_opening whole place ≡ false
    → what_stands puts place ≡ None → what_stands (puts ++ put ∷ []) place ≡ None
put_elsewhere whole puts put place true e among other h =
    let same : put.place ≡ place = (Decides-eqb put.place place).0 e in
    let there : is_opening whole place ≡ true = subst (λ p. is_opening whole p ≡ true) same among in
    cc
put_elsewhere whole puts put place false e among other h = stands_still puts put place e ∙ h

pub tidy_put : (joint : Joint) (whole : List Opening) (puts : List Put) (put : Put) → IsTidy joint whole puts → what_stands puts put.place ≡ None → is_opening whole put.place ≡ true → IsTidy joint whole (puts ++ put ∷ [])
tidy_put joint whole puts put tidy free among = record {
  alone = λ place. put_alone joint puts put place (put.place == place) refl (tidy.alone place) free;
  elsewhere = λ place other. put_elsewhere whole puts put place (put.place == place) refl among other (tidy.elsewhere place other);
}

-- ---- the runs

abbrev AreOpenings : List Opening → List Opening → Type 0
AreOpenings whole openings = All (λ s. is_opening whole s.place ≡ true) openings

one_tidy : (joint : Joint) (whole openings : List Opening) (copy : ItemCopy) (puts : List Put) (test : Opening → Bool) (opening : Opening) → AreOpenings whole openings → IsTidy joint whole puts → first_fit test puts openings ≡ Some opening
    → IsTidy joint whole (puts ++ put_of copy opening ∷ [])
one_tidy joint whole openings copy puts test opening all tidy e =
    tidy_put joint whole puts (put_of copy opening) tidy (free_there test puts openings opening e).0 (find_all (λ s. is_opening whole s.place ≡ true) _ openings opening all e)

tidy_step : (joint : Joint) (whole openings : List Opening) (copy : ItemCopy) (later : List ItemCopy) (puts result : List Put) (test : Opening → Bool) → AreOpenings whole openings → IsTidy joint whole puts
    → ((opening : Opening) → IsTidy joint whole (puts ++ put_of copy opening ∷ []) → FillRun joint openings later (puts ++ put_of copy opening ∷ []) (filled result) → IsTidy joint whole result)
    → (o : Option Opening) → first_fit test puts openings ≡ o → MatchOption o (filled result ≡ stuck_with copy) (λ opening. FillRun joint openings later (puts ++ put_of copy opening ∷ []) (filled result))
    → IsTidy joint whole result
tidy_step joint whole openings copy later puts result test all tidy rest None e r = let never : ⊥ = cc in absurd never
tidy_step joint whole openings copy later puts result test all tidy rest (Some opening) e r = rest opening (one_tidy joint whole openings copy puts test opening all tidy e) r

pub tidy_run : (joint : Joint) (whole openings : List Opening) (copies : List ItemCopy) (puts result : List Put) → AreOpenings whole openings → IsTidy joint whole puts
    → FillRun joint openings copies puts (filled result) → IsTidy joint whole result
tidy_run joint whole openings [] puts result all tidy r = let same : result ≡ puts = cc in rw same tidy
tidy_run joint whole openings (copy ∷ later) puts result all tidy r =
    let test = is_allowed joint (bag_with (in_hand joint later) r.0 r.1) r.1 copy in
    tidy_step joint whole openings copy later puts result test all tidy
    (λ opening t rest. tidy_run joint whole openings later (puts ++ put_of copy opening ∷ []) result all t rest) (first_fit test puts openings) refl r.4

-- a copy that no rule asks for
pub record IsIdle (joint : Joint) (copy : ItemCopy) : Type 0 where
  pub numbers : copy_numbers joint copy ≡ []

-- tidy, and as much stands at each place as before
pub record IsTidyAs (joint : Joint) (whole : List Opening) (puts result : List Put) : Type 0 where
  pub tidy : IsTidy joint whole result
  pub same : (place : ℕ) → standing joint result place ≡ standing joint puts place

either_nothing : (b : Bool) → cond {A = List ℕ} b [] [] ≡ []
either_nothing true = refl
either_nothing false = refl

idle_same : (joint : Joint) (copy : ItemCopy) (puts : List Put) (opening : Opening) (place : ℕ) → IsIdle joint copy → standing joint (puts ++ put_of copy opening ∷ []) place ≡ standing joint puts place
idle_same joint copy puts opening place idle =
    standing_push joint puts (put_of copy opening) place ∙ ap (λ ns. standing joint puts place ++ cond (opening.place == place) ns []) idle.numbers
    ∙ ap (λ ns. standing joint puts place ++ ns) (either_nothing (opening.place == place)) ∙ append-nil (standing joint puts place)

anywhere_step : (joint : Joint) (whole openings : List Opening) (copy : ItemCopy) (later : List ItemCopy) (puts result : List Put) → AreOpenings whole openings → IsIdle joint copy → IsTidy joint whole puts
    → ((opening : Opening) → IsTidy joint whole (puts ++ put_of copy opening ∷ []) → placed_anywhere openings later (puts ++ put_of copy opening ∷ []) ≡ filled result → IsTidyAs joint whole (puts ++ put_of copy opening ∷ []) result)
    → (o : Option Opening) → first_fit (accepts copy) puts openings ≡ o → or_stuck o copy (λ opening. placed_anywhere openings later (puts ++ put_of copy opening ∷ [])) ≡ filled result
    → IsTidyAs joint whole puts result
anywhere_step joint whole openings copy later puts result all idle tidy rest None e r = let never : ⊥ = cc in absurd never
anywhere_step joint whole openings copy later puts result all idle tidy rest (Some opening) e r =
    let end = rest opening (one_tidy joint whole openings copy puts (accepts copy) opening all tidy e) r in
    record { tidy = end.tidy; same = λ place. end.same place ∙ idle_same joint copy puts opening place idle }

pub tidy_anywhere : (joint : Joint) (whole openings : List Opening) (copies : List ItemCopy) (puts result : List Put) → AreOpenings whole openings → All (IsIdle joint) copies → IsTidy joint whole puts
    → placed_anywhere openings copies puts ≡ filled result → IsTidyAs joint whole puts result
tidy_anywhere joint whole openings [] puts result all idle tidy r =
    let same : puts ≡ result = cc in
    record { tidy = subst (IsTidy joint whole) same tidy; same = λ place. ap (λ ps. standing joint ps place) (sym same) }
tidy_anywhere joint whole openings (copy ∷ later) puts result all idle tidy r =
    anywhere_step joint whole openings copy later puts result all (idle 0 copy (omega arith)) tidy
    (λ opening t rest. tidy_anywhere joint whole openings later (puts ++ put_of copy opening ∷ []) result all (λ i d l. idle (suc i) d (omega arith)) t rest) (first_fit (accepts copy) puts openings) refl r

-- ---- the placement

none_later : (puts : List Put) (x : ℕ) (openings : List Opening) (low high : ℕ) → x < low → Rises low (map place_of openings) high → filter (stands_at x) (map (end_put puts) openings) ≡ []
none_later puts x [] low high h r = refl
none_later puts x (s ∷ openings) low high h r =
    let other : (end_put puts s).place ≡ x → ⊥ = λ e. absurd (omega (arith, end_place puts s, r.0)) in
    let test : ((end_put puts s).place == x) ≡ false = elim (cases_Bool ((end_put puts s).place == x)) [
      | inl same ↦ absurd (other ((Decides-eqb (end_put puts s).place x).0 same))
      | inr differs ↦ differs
    ] in
    cond-false ((end_put puts s).place == x) (end_put puts s ∷ filter (stands_at x) (map (end_put puts) openings)) (filter (stands_at x) (map (end_put puts) openings)) test ∙ none_later puts x openings (suc s.place) high (omega (arith, r.0)) r.2

end_numbers : (joint : Joint) (opening : Opening) (o : Option Put) → put_numbers joint (filler_at opening) ≡ [] → put_numbers joint (or_filler o opening) ≡ numbers_held joint o
end_numbers joint opening None h = h
end_numbers joint opening (Some put) h = refl

-- at a place of these locations stands what was put there
pub placement_stands : (joint : Joint) (puts : List Put) (openings : List Opening) (low high place : ℕ) → Rises low (map place_of openings) high → All (λ s. put_numbers joint (filler_at s) ≡ []) openings
    → standing joint (map (end_put puts) openings) place ≡ cond (is_opening openings place) (numbers_held joint (what_stands puts place)) []
placement_stands joint puts [] low high place r idle = refl
placement_stands joint puts (s ∷ openings) low high place r idle =
    let rest = filter (stands_at place) (map (end_put puts) openings) in
    let more = numbers_held joint (what_stands puts place) in
    elim (cases_Bool (s.place == place)) [
      | inl here ↦
          let same : s.place ≡ place = (Decides-eqb s.place place).0 here in
          let test : ((end_put puts s).place == place) ≡ true = ap (λ p. p == place) (end_place puts s) ∙ here in
          let nothing : rest ≡ [] = none_later puts place openings (suc s.place) high (omega arith) r.2 in
          ap (flat_map (put_numbers joint)) (cond-true ((end_put puts s).place == place) (end_put puts s ∷ rest) rest test ∙ ap (λ ps. end_put puts s ∷ ps) nothing)
          ∙ append-nil (put_numbers joint (end_put puts s)) ∙ end_numbers joint s (what_stands puts s.place) (idle 0 s (omega arith)) ∙ ap (λ p. numbers_held joint (what_stands puts p)) same
          ∙ sym (ap (λ b. cond (b || is_opening openings place) more []) here)
      | inr past ↦
          let test : ((end_put puts s).place == place) ≡ false = ap (λ p. p == place) (end_place puts s) ∙ past in
          ap (flat_map (put_numbers joint)) (cond-false ((end_put puts s).place == place) (end_put puts s ∷ rest) rest test)
          ∙ placement_stands joint puts openings (suc s.place) high place r.2 (λ i d l. idle (suc i) d (omega arith)) ∙ sym (ap (λ b. cond (b || is_opening openings place) more []) past)
    ]
