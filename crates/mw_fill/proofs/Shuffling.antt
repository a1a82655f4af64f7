-- What a shuffle keeps.
use Rattle.std.proofs.Common.{◌≡◌, ℕ, zero, suc, ◌+◌, ◌-◌, ◌%◌, ◌^◌, List, [], ◌∷◌, All, length, get_or, set, refl, ap, ◌∙◌, subst, sym, inl, inr, arith}
use Rattle.std.specs.List.{swap}
use Rattle.std.proofs.lemmas.Bool.{cases_lt}
use Rattle.std.proofs.lemmas.List.{get_or_past}
use Rattle.std.proofs.lemmas.List.Edits.{length-swap}
use Rattle.std.proofs.lemmas.List.Elements.{All-set}
use Rattle.std.proofs.Math.Nat.{mod-mod, mod-add-mod}
use Rattle.rand_chacha.specs.ChaCha.{ChaCha, word_at}
use Rattle.mw_fill.specs.Draws.{words_of, at_place, drawn, shuffled, shuffled_down, place_after}

-- an element, or the first one in place of one past the end
element : {A : Type 0} (P : A → Type 0) (d : A) (xs : List A) (k : ℕ) → All P (d ∷ xs) → P (get_or (d ∷ xs) k d)
element P d xs k h = elim (cases_lt k (length (d ∷ xs))) [
  | inl within ↦ h k d within
  | inr past ↦ subst P (sym (get_or_past (d ∷ xs) k d past)) (h 0 d (omega arith))
]

swap_all : {A : Type 0} (P : A → Type 0) (xs : List A) (i j : ℕ) → All P xs → All P (swap xs i j)
swap_all P [] i j h = h
swap_all P (d ∷ xs) i j h = All-set P (set (d ∷ xs) i (get_or (d ∷ xs) j d)) j (get_or (d ∷ xs) i d) (element P d xs i h) (All-set P (d ∷ xs) i (get_or (d ∷ xs) j d) (element P d xs j h) h)

down_all : {A : Type 0} (P : A → Type 0) (words : ℕ → ℕ) (place i : ℕ) (xs : List A) → All P xs → All P (shuffled_down words place i xs)
down_all P words place zero xs h = h
down_all P words place (suc i) xs h = down_all P words (suc place) i (swap xs (suc i) (drawn (words place) (suc (suc i)))) (swap_all P xs (suc i) (drawn (words place) (suc (suc i))) h)

-- what holds of each element
pub shuffled_all : {A : Type 0} (P : A → Type 0) (words : ℕ → ℕ) (place : ℕ) (xs : List A) → All P xs → All P (shuffled words place xs)
shuffled_all P words place xs h = down_all P words place (length xs - 1) xs h

down_length : {A : Type 0} (words : ℕ → ℕ) (place i : ℕ) (xs : List A) → length (shuffled_down words place i xs) ≡ length xs
down_length words place zero xs = refl
down_length words place (suc i) xs = down_length words (suc place) i (swap xs (suc i) (drawn (words place) (suc (suc i)))) ∙ length-swap xs (suc i) (drawn (words place) (suc (suc i)))

-- how many there are
pub shuffled_length : {A : Type 0} (words : ℕ → ℕ) (place : ℕ) (xs : List A) → length (shuffled words place xs) ≡ length xs
shuffled_length words place xs = down_length words place (length xs - 1) xs

-- ---- words past the end of the stream

down_wraps : {A : Type 0} (g : ChaCha) (p q i : ℕ) (xs : List A) → p % 2 ^ 68 ≡ q % 2 ^ 68 → shuffled_down (words_of g) p i xs ≡ shuffled_down (words_of g) q i xs
down_wraps g p q zero xs e = refl
down_wraps g p q (suc i) xs e =
    let more : (n : ℕ) → suc n % 2 ^ 68 ≡ (n % 2 ^ 68 + 1) % 2 ^ 68 = λ n. (let one : suc n ≡ n + 1 = omega arith in ap (λ m. m % 2 ^ 68) one) ∙ sym (mod-add-mod n (2 ^ 68) 1) in
    let next : suc p % 2 ^ 68 ≡ suc q % 2 ^ 68 = more p ∙ ap (λ n. (n + 1) % 2 ^ 68) e ∙ sym (more q) in
    ap (λ place. shuffled_down (words_of g) (suc p) i (swap xs (suc i) (drawn (word_at 10 g.key g.stream place) (suc (suc i))))) e
    ∙ down_wraps g (suc p) (suc q) i (swap xs (suc i) (drawn (words_of g q) (suc (suc i)))) next

-- a shuffle by a generator at a place takes the words from there on
pub shuffled_wraps : {A : Type 0} (g : ChaCha) (place : ℕ) (xs : List A) → shuffled (words_of (at_place g place)) (at_place g place).word_pos xs ≡ shuffled (words_of g) place xs
shuffled_wraps g place xs = down_wraps g (place % 2 ^ 68) place (length xs - 1) xs (mod-mod place (2 ^ 68))

pub moved_on : {A : Type 0} (g : ChaCha) (place : ℕ) (xs : List A) → at_place (at_place g place) (place_after (at_place g place).word_pos xs) ≡ at_place g (place_after place xs)
moved_on g place xs = ap (λ (n : ℕ). record g { word_pos = n }) (mod-add-mod place (2 ^ 68) (length xs - 1))
