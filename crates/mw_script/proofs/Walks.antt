-- Lines one after another.
use Rattle.std.proofs.Common.{◌≡◌, ◌<◌, ◌+◌, ℕ, suc, List, [], ◌∷◌, length, take, drop, Bool, true, false, not, cond, refl, ap, ap₂, sym, ◌∙◌, arith, length-drop, length-take}
use Rattle.std.specs.List.{position_or_len, before_first, after_first}
use Rattle.mw_script.specs.Lines.{is_end, lines_of, ended_lines, before_lines, before_ended}

take_next : (n b : ℕ) (bs : List ℕ) → take (1 + n) (b ∷ bs) ≡ b ∷ take n bs
take_next n b bs = ap (λ k. take k (b ∷ bs)) {y = suc n} (omega arith)

drop_next : (n b : ℕ) (bs : List ℕ) → drop (1 + n + 1) (b ∷ bs) ≡ drop (n + 1) bs
drop_next n b bs = ap (λ k. drop k (b ∷ bs)) {y = suc (n + 1)} (omega arith)

-- a byte in front of a line joins it
joined : (b n : ℕ) (bs : List ℕ) → (b ∷ take n bs) ∷ lines_of (drop (n + 1) bs) ≡ take (1 + n) (b ∷ bs) ∷ lines_of (drop (1 + n + 1) (b ∷ bs))
joined b n bs = ap₂ (λ line rest. line ∷ lines_of rest) (sym (take_next n b bs)) (sym (drop_next n b bs))

joined_ended : (b n : ℕ) (bs : List ℕ) → (b ∷ take n bs) ∷ ended_lines (drop (n + 1) bs) ≡ take (1 + n) (b ∷ bs) ∷ ended_lines (drop (1 + n + 1) (b ∷ bs))
joined_ended b n bs = ap₂ (λ line rest. line ∷ ended_lines rest) (sym (take_next n b bs)) (sym (drop_next n b bs))

-- by whether the first byte is an end
by_first : (b n : ℕ) (bs : List ℕ) (v : Bool) → before_lines b (lines_of bs) ≡ (b ∷ take n bs) ∷ lines_of (drop (n + 1) bs)
    → cond v ([] ∷ lines_of bs) (before_lines b (lines_of bs)) ≡ take (cond (not v) (1 + n) 0) (b ∷ bs) ∷ lines_of (drop (cond (not v) (1 + n) 0 + 1) (b ∷ bs))
by_first b n bs true rest = refl
by_first b n bs false rest = rest ∙ joined b n bs

pub lines_step : (bs : List ℕ) → 0 < length bs → lines_of bs ≡ before_first is_end bs ∷ lines_of (after_first is_end bs)
lines_step [] h = absurd (omega arith)
lines_step (b ∷ []) h = by_first b 0 [] (is_end b) refl
lines_step (b ∷ c ∷ bs) h = by_first b (position_or_len is_end (c ∷ bs)) (c ∷ bs) (is_end b) (ap (before_lines b) (lines_step (c ∷ bs) (omega arith)))

pub after_shorter : (bs : List ℕ) → 0 < length bs → length (after_first is_end bs) < length bs
after_shorter bs h = omega (arith, length-drop (position_or_len is_end bs + 1) bs)

by_first_ended : (b n : ℕ) (bs : List ℕ) (v : Bool) → cond (not v) (1 + n) 0 < length (b ∷ bs) → (n < length bs → ended_lines bs ≡ take n bs ∷ ended_lines (drop (n + 1) bs))
    → cond v ([] ∷ ended_lines bs) (before_ended b (ended_lines bs)) ≡ take (cond (not v) (1 + n) 0) (b ∷ bs) ∷ ended_lines (drop (cond (not v) (1 + n) 0 + 1) (b ∷ bs))
by_first_ended b n bs true h rest = refl
by_first_ended b n bs false h rest = ap (before_ended b) (rest (omega (arith, h))) ∙ joined_ended b n bs

pub ended_step : (bs : List ℕ) → position_or_len is_end bs < length bs → ended_lines bs ≡ before_first is_end bs ∷ ended_lines (after_first is_end bs)
ended_step [] h = absurd (omega (arith, h))
ended_step (b ∷ bs) h = by_first_ended b (position_or_len is_end bs) bs (is_end b) h (ended_step bs)

none_by_first : (b n : ℕ) (bs : List ℕ) (v : Bool) → cond (not v) (1 + n) 0 ≡ length (b ∷ bs) → (n ≡ length bs → ended_lines bs ≡ []) → cond v ([] ∷ ended_lines bs) (before_ended b (ended_lines bs)) ≡ []
none_by_first b n bs true h rest = absurd (omega (arith, h))
none_by_first b n bs false h rest = ap (before_ended b) (rest (omega (arith, h)))

pub ended_none : (bs : List ℕ) → position_or_len is_end bs ≡ length bs → ended_lines bs ≡ []
ended_none [] h = refl
ended_none (b ∷ bs) h = none_by_first b (position_or_len is_end bs) bs (is_end b) h (ended_none bs)

-- a list is cut below its length
pub length_cut : (n : ℕ) (bs : List ℕ) → n < length bs → n ≡ length (take n bs)
length_cut n bs h = grind (arith, length-take)
