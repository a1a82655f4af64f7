-- Tails of views, and how long views are.
use Rattle.std.proofs.Common.{◌≡◌, ℕ, zero, suc, List, [], ◌++◌, drop, refl, sym, ap, ap₂, ◌∙◌, append-nil}
use Rattle.mw_model.specs.Items.{NetItem}
use Rattle.mw_checks.specs.Views.{asked_of, tail_of, Takes}
use Rattle.mw_checks.specs.declared.handling.Handling.{Handling}
use Rattle.mw_checks.specs.declared.tail.Tail.{Tail}

drop-nil : {X : Type 0} (n : ℕ) → drop {A = X} n [] ≡ []
drop-nil zero = refl
drop-nil (suc n) = refl

-- what a tail holds after two lists
pub viewed : (handling : Handling) (first between last : Tail) (from : ℕ) (xs ys : List NetItem) → first.items ≡ [] → first.skip ≡ from → Takes handling first between xs → Takes handling between last ys
    → last.items ≡ drop from (asked_of handling (xs ++ ys))
viewed handling first between last from xs ys empty skip takes more =
    let none : last.items ≡ tail_of handling last [] = sym (ap (λ zs. last.items ++ zs) (drop-nil last.skip) ∙ append-nil last.items) in
    none ∙ more [] ∙ ap (tail_of handling between) (append-nil ys) ∙ takes ys ∙ ap₂ (λ zs n. zs ++ drop n (asked_of handling (xs ++ ys))) empty skip
