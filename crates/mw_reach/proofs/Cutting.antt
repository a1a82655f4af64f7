-- Lists that stand one after the other.
use Rattle.std.proofs.Common.{◌≡◌, ℕ, zero, suc, ◌+◌, ◌<◌, ◌≤◌, ◌∙◌, ◌++◌, List, [], ◌∷◌, drop, get_or, length, refl, sym, ap, ap₂, inl, inr, arith}
use Rattle.std.specs.Prelude.{slice_range}
use Rattle.std.proofs.Math.Seq.{drop-append_seam}
use Rattle.std.proofs.lemmas.Bool.{cases_lt}
use Rattle.std.proofs.lemmas.List.{get_or_append_left, get_or_at, length-append, take-append-le}
use Rattle.std.proofs.lemmas.Slice.{between_is, between_to_end}
use Rattle.mw_multi.specs.Placement.{numbers_at}
use Rattle.mw_reach.specs.Cut.{cut_from, AreEnds, start_of}

pub cut_size : (start : ℕ) (ends numbers : List ℕ) → length (cut_from start ends numbers) ≡ length ends
cut_size start [] numbers = refl
cut_size start (e ∷ ends) numbers = ap suc (cut_size e ends numbers)

start_within : (start : ℕ) (ends numbers : List ℕ) → AreEnds start ends numbers → start ≤ length numbers
start_within start [] numbers h = omega (arith, h)
start_within start (e ∷ ends) numbers h = omega (arith, h.0, start_within e ends numbers h.1)

-- ---- one list

cut_here : (k start : ℕ) (ends numbers : List ℕ) → AreEnds start ends numbers → k < length ends
    → (get_or (start ∷ ends) k 0 ≤ get_or ends k 0) × (get_or ends k 0 ≤ length numbers)
    × (numbers_at (cut_from start ends numbers) k ≡ slice_range numbers (get_or (start ∷ ends) k 0) (get_or ends k 0))
cut_here k start [] numbers h l = absurd (omega arith)
cut_here zero start (e ∷ ends) numbers h l = (h.0, start_within e ends numbers h.1, refl)
cut_here (suc k) start (e ∷ ends) numbers h l = cut_here k e ends numbers h.1 (omega arith)

begins : (ends : List ℕ) (k : ℕ) → start_of ends k ≡ get_or (0 ∷ ends) k 0
begins ends zero = refl
begins ends (suc k) = refl

-- where a key's list stands
pub cut_at : (k : ℕ) (ends numbers : List ℕ) → AreEnds 0 ends numbers → k < length ends
    → (start_of ends k ≤ get_or ends k 0) × (get_or ends k 0 ≤ length numbers) × (numbers_at (cut_from 0 ends numbers) k ≡ slice_range numbers (start_of ends k) (get_or ends k 0))
cut_at k ends numbers h l = rw (begins ends k) (cut_here k 0 ends numbers h l)

-- ---- one list more

pub ends_more : (start : ℕ) (ends numbers list : List ℕ) → AreEnds start ends numbers → AreEnds start (ends ++ length (numbers ++ list) ∷ []) (numbers ++ list)
ends_more start [] numbers list h = (omega (arith, h, length-append numbers list), refl)
ends_more start (e ∷ ends) numbers list h = (h.0, ends_more e ends numbers list h.1)

part_stays : (numbers list : List ℕ) (start e : ℕ) → e ≤ length numbers → slice_range (numbers ++ list) start e ≡ slice_range numbers start e
part_stays numbers list start e h = between_is (numbers ++ list) start e ∙ ap (drop start) (take-append-le e numbers list h) ∙ sym (between_is numbers start e)

last_part : (numbers list : List ℕ) (start n : ℕ) → start ≡ length numbers → length (numbers ++ list) ≤ n → slice_range (numbers ++ list) start n ≡ list
last_part numbers list start n at h = between_to_end (numbers ++ list) start n h ∙ ap (λ k. drop k (numbers ++ list)) at ∙ drop-append_seam numbers list

pub cut_more : (start : ℕ) (ends numbers list : List ℕ) → AreEnds start ends numbers
    → cut_from start (ends ++ length (numbers ++ list) ∷ []) (numbers ++ list) ≡ cut_from start ends numbers ++ list ∷ []
cut_more start [] numbers list h = ap (λ l. l ∷ []) (last_part numbers list start (length (numbers ++ list)) h (omega arith))
cut_more start (e ∷ ends) numbers list h =
    ap₂ (λ l ls. l ∷ ls) (part_stays numbers list start e (start_within e ends numbers h.1)) (cut_more e ends numbers list h.1)

-- ---- a table that grows by one list after another

-- the list with this number is the last one, or was there before
pub lists_more : (f : ℕ → List ℕ) (table later : List (List ℕ)) (list : List ℕ) (n : ℕ) → length table ≡ n → ((p : ℕ) → p < n → numbers_at table p ≡ f p)
    → later ≡ table ++ list ∷ [] → list ≡ f n → (p : ℕ) → p < n + 1 → numbers_at later p ≡ f p
lists_more f table later list n size are is here p within = elim (cases_lt p n) [
  | inl below ↦ ap (λ t. numbers_at t p) is ∙ get_or_append_left table (list ∷ []) [] p (omega (arith, size)) ∙ are p below
  | inr past ↦
      let same : n ≡ p = omega arith in
      ap (λ t. numbers_at t p) is ∙ get_or_at table list [] [] p (size ∙ same) ∙ here ∙ ap f same
]
