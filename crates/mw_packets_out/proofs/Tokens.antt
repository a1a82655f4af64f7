-- Tokens that are written in two steps.
use Rattle.std.proofs.Common.{◌≡◌, List, ◌++◌, ◌∙◌, ap, append_assoc}

pub then_more : {A : Type 0} (old front rest mid new : List A) → mid ≡ old ++ front → new ≡ mid ++ rest → new ≡ old ++ (front ++ rest)
then_more old front rest mid new first second = second ∙ ap (λ t. t ++ rest) first ∙ append_assoc old front rest
