-- What the bytes of CHOICE name, and why they name nothing.
use Rattle.std.proofs.Common.{◌<◌, ◌≤◌, ℕ, zero, suc, List, [], ◌∷◌, ◌++◌, length, get_or, arith, Option, refl}
use Rattle.mw_journal.specs.declared.error.OpenError.{OpenError}
use Rattle.mw_journal.specs.declared.error.OpenError.TheVariants as open_error
use Rattle.mw_journal.specs.Opening.{RefusesOpen, IsOutside as IsOpenOutside}
use Rattle.mw_checkpoint.specs.Choices.{AreChoices}
use Rattle.mw_checkpoint.specs.Refused.{IsOutside, RefusesChosen, pair_error_of}

pub choices_joined : (xs ys : List ℕ) → AreChoices xs → AreChoices ys → AreChoices (xs ++ ys)
choices_joined [] ys left right = right
choices_joined (x ∷ xs) ys left right = (left.0, choices_joined xs ys left.1 right)

-- bytes 0 and 1 have no other
pub no_bad_byte : (text : List ℕ) (at : ℕ) → AreChoices text → at < length text → 2 ≤ get_or text at 0 → ⊥
no_bad_byte [] at choices within bad = absurd (omega arith)
no_bad_byte (b ∷ bs) zero choices within bad = absurd (omega (arith, choices.0, bad))
no_bad_byte (b ∷ bs) (suc at) choices within bad = no_bad_byte bs at choices.1 (omega (arith, within)) bad

-- an error of `open` on CHOICE is one of `chosen`
pub refuses_chosen : (told : Option (List ℕ)) (digest : List ℕ) (before after : ℕ) (e : OpenError)
    → RefusesOpen told digest before after e → RefusesChosen told digest before after (pair_error_of 0 e)
refuses_chosen told digest before after open_error.DiskFault refuses = (refl, refuses)
refuses_chosen told digest before after open_error.NotEmpty refuses = refuses
refuses_chosen told digest before after (open_error.NotJournal at) refuses = (refl, refuses)
refuses_chosen told digest before after (open_error.OtherSeed found) refuses = (refl, refuses)
refuses_chosen told digest before after open_error.Memory refuses = tt

pub outside_pair : (place : ℕ) (e : OpenError) → IsOpenOutside e → IsOutside (pair_error_of place e)
outside_pair place open_error.DiskFault out = tt
outside_pair place open_error.NotEmpty out = out
outside_pair place (open_error.NotJournal at) out = out
outside_pair place (open_error.OtherSeed found) out = out
outside_pair place open_error.Memory out = tt
