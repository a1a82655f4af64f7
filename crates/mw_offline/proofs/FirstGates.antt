-- The first gate of a journal that stands for the empty text.
use Rattle.std.proofs.Common.{◌≡◌, ℕ, List, [], ◌∷◌, ◌++◌, length, refl, sym, ap, subst, ◌∙◌, arith, length-append}
use Rattle.std.specs.List.{concat}
use Rattle.mw_journal.specs.Image.{AreLaid, IsShut, batches, header}
use Rattle.mw_journal.specs.Settled.{AllShut}

-- bodies that aren't empty are none, where they join to nothing
none_laid : (bodies : List (List ℕ)) (place : ℕ) → AreLaid place bodies → concat bodies ≡ [] → bodies ≡ []
none_laid [] place laid is = refl
none_laid (body ∷ bodies) place laid is =
    absurd (omega (arith, laid.1, length-append body (concat bodies), ap length is))

first_place : (c digest : List ℕ) (place : ℕ) → IsShut c digest [] place 0 → place ≡ 40
first_place c digest place shut =
    let none = none_laid shut.bodies 40 shut.begins.laid (sym shut.joined) in
    let here : place ≡ length (header digest ++ batches []) = shut.begins.place_is ∙ ap (λ (b : List (List ℕ)). length (header digest ++ batches b)) none in
    omega (arith, here, shut.begins.digest_size, length-append (header digest) (batches []))

pub all_first : (images : List ℕ → Type 0) (digest : List ℕ) (place : ℕ) → AllShut images digest [] place → AllShut images digest [] 40
all_first images digest place all c image =
    let shut = all c image in
    subst (λ (p : ℕ). IsShut c digest [] p 0) (first_place c digest place shut) shut
