-- A shuffle only moves entries.
use Rattle.std.proofs.Common.{◌≡◌, ℕ, zero, suc, ◌-◌, ◌/◌, ◌%◌, ◌^◌, ◌<◌, ◌≤◌, List, length, refl, sym, ◌∙◌, arith}
use Rattle.std.specs.List.{swap}
use Rattle.std.specs.List.Sorted.{IsPermutation}
use Rattle.std.proofs.Math.Nat.{mod-lt}
use Rattle.std.proofs.lemmas.List.Concat.{length-flat_map}
use Rattle.std.proofs.lemmas.List.Edits.{length-swap}
use Rattle.std.proofs.lemmas.List.Sorted.{IsPermutation-refl, IsPermutation-trans, IsPermutation-swap, sum_by-IsPermutation}
use Rattle.rand_chacha.specs.ChaCha.{ChaCha}
use Rattle.mw_multi.specs.Joint.{Joint}
use Rattle.mw_reach.specs.Reach.{times_in}
use Rattle.rand_chacha.specs.Block.{block_word}
use Rattle.mw_fill.specs.Draws.{words_of, drawn, shuffled, shuffled_down}
use Rattle.mw_fill.specs.Copies.{ItemCopy, copy_numbers, all_numbers, copies_count}
use Rattle.mw_fill.proofs.Owning.{count_each}

word_small : (n : ℕ) (key : List ℕ) (counter nonce k : ℕ) → block_word n key counter nonce k < 2 ^ 32
unfolding block_word
word_small n key counter nonce k = mod-lt _ (omega arith)

pub words_small : (g : ChaCha) (place : ℕ) → words_of g place < 2 ^ 32
words_small g place = word_small 10 g.key (place % 2 ^ 68 / 16) g.stream _

pub drawn_below : (word k : ℕ) → word < 2 ^ 32 → 1 ≤ k → drawn word k < k
drawn_below word k small some = grind arith

down_moves : {A : Type 0} (words : ℕ → ℕ) → ((p : ℕ) → words p < 2 ^ 32) → (place i : ℕ) (xs : List A) → i ≤ length xs - 1 → IsPermutation xs (shuffled_down words place i xs)
down_moves words small place zero xs h = IsPermutation-refl xs
down_moves words small place (suc i) xs h =
    let j = drawn (words place) (suc (suc i)) in
    let below : j < suc (suc i) = drawn_below (words place) (suc (suc i)) (small place) (omega arith) in
    let long : length (swap xs (suc i) j) ≡ length xs = length-swap xs (suc i) j in
    IsPermutation-trans xs (swap xs (suc i) j) (shuffled_down words (suc place) i (swap xs (suc i) j)) (IsPermutation-swap xs (swap xs (suc i) j) (suc i) j (omega arith) (omega arith) refl)
    (down_moves words small (suc place) i (swap xs (suc i) j) (omega arith))

pub shuffled_moves : {A : Type 0} (words : ℕ → ℕ) → ((p : ℕ) → words p < 2 ^ 32) → (place : ℕ) (xs : List A) → IsPermutation xs (shuffled words place xs)
shuffled_moves words small place xs = down_moves words small place (length xs - 1) xs (omega arith)

-- as many numbers
pub shuffled_numbers : (joint : Joint) (words : ℕ → ℕ) → ((p : ℕ) → words p < 2 ^ 32) → (place : ℕ) (copies : List ItemCopy) → length (all_numbers joint (shuffled words place copies)) ≡ length (all_numbers joint copies)
shuffled_numbers joint words small place copies =
    length-flat_map (copy_numbers joint) (shuffled words place copies) ∙ sum_by-IsPermutation (λ c. length (copy_numbers joint c)) copies (shuffled words place copies) (shuffled_moves words small place copies) ∙ sym (length-flat_map (copy_numbers joint) copies)

-- as many copies of each item
pub shuffled_count : (joint : Joint) (words : ℕ → ℕ) → ((p : ℕ) → words p < 2 ^ 32) → (place : ℕ) (copies : List ItemCopy) (n : ℕ) → copies_count joint (shuffled words place copies) n ≡ copies_count joint copies n
shuffled_count joint words small place copies n =
    count_each joint (shuffled words place copies) n ∙ sum_by-IsPermutation (λ c. times_in n (copy_numbers joint c)) copies (shuffled words place copies) (shuffled_moves words small place copies) ∙ sym (count_each joint copies n)
