-- The words beside lists of numbers, as one list changes.
use Rattle.std.proofs.Common.{◌≡◌, ℕ, zero, suc, ◌<◌, ◌∙◌, ◌++◌, List, [], ◌∷◌, length, map, set, take, refl, sym, ap, length-set}
use Rattle.std.specs.Prelude.{replicate}
use Rattle.std.proofs.lemmas.List.{get_or-set_same, map-set, take_at}
use Rattle.mw_multi.specs.Placement.{numbers_at}
use Rattle.mw_multi.specs.Words.{word_of, nothing}

pub none_worded : (n : ℕ) → replicate n nothing ≡ map word_of (replicate n [])
none_worded zero = refl
none_worded (suc n) = ap (λ ws. nothing ∷ ws) (none_worded n)

-- the word of the place that has these numbers now was written anew
pub word_noted : (lists : List (List ℕ)) (words later rest ns : List ℕ) (place n : ℕ) → place < length lists → words ≡ map word_of lists
    → later ≡ set words place (word_of (numbers_at (set lists place ns) place)) → length words ≡ n → take n (later ++ rest) ≡ map word_of (set lists place ns)
word_noted lists words later rest ns place n within are noted size =
    take_at later rest n (ap length noted ∙ length-set words place _ ∙ size)
    ∙ noted
    ∙ ap (λ k. set words place (word_of k)) (get_or-set_same lists place ns [] within)
    ∙ ap (λ ws. set ws place (word_of ns)) are
    ∙ sym (map-set word_of lists place ns)
