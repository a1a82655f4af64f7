-- Words of a stream, and what is drawn with them.
use Rattle.std.specs.Prelude.{ℕ, zero, suc, ◌+◌, ◌-◌, ◌*◌, ◌/◌, ◌%◌, ◌^◌, List, ◌++◌, length}
use Rattle.std.specs.List.{swap}
use Rattle.std.specs.Int.{w64, to_le_bytes}
use Rattle.std.proofs.Common.{replicate}
use Rattle.rand_chacha.specs.ChaCha.{ChaCha, word_at, key_of}

-- the key of a seed: its eight bytes, least first, and 24 zeros
abbrev pub seed_key : ℕ → List ℕ
seed_key seed = key_of (to_le_bytes w64 seed ++ replicate 24 0)

-- the words of a seed's stream, from the first on
abbrev pub start_of : ℕ → ℕ → ChaCha
start_of seed stream = record { key = seed_key seed; stream = stream; word_pos = 0 }

-- the word at a place of the generator's stream, by the 20 rounds of ChaCha20; after 2^68 words
-- they begin anew
abbrev pub words_of : ChaCha → ℕ → ℕ
words_of g place = word_at 10 g.key g.stream (place % 2 ^ 68)

-- the generator whose next word is the one at this place
abbrev pub at_place : ChaCha → ℕ → ChaCha
at_place g place = record g { word_pos = place % 2 ^ 68 }

-- a number below k, from a word
abbrev pub drawn : ℕ → ℕ → ℕ
drawn word k = word * k / 2 ^ 32

-- from the entry at i down to the one at 1, each changes places with a drawn one at or before it;
-- the words begin at a place
abbrev pub shuffled_down : {A : Type 0} → (ℕ → ℕ) → ℕ → ℕ → List A → List A
shuffled_down words place zero xs = xs
shuffled_down words place (suc i) xs =
    shuffled_down words (suc place) i (swap xs (suc i) (drawn (words place) (suc (suc i))))

-- the entries in the order that the words give, from a place on
abbrev pub shuffled : {A : Type 0} → (ℕ → ℕ) → ℕ → List A → List A
shuffled words place xs = shuffled_down words place (length xs - 1) xs

-- where the words after a shuffle begin
abbrev pub place_after : {A : Type 0} → ℕ → List A → ℕ
place_after place xs = place + (length xs - 1)
