-- A name among borrowed ones.
use Rattle.std.proofs.Common.{◌≡◌, ℕ, List, [], ◌∷◌, Bool, ◌||◌, Bor, map, refl, ap}
use Rattle.std.specs.List.{list_any}

pub any_of_borrowed : (p : List ℕ → Bool) (ks : List (Bor (List ℕ))) → list_any p (map (λ k. k.now) ks) ≡ list_any (λ k. p k.now) ks
any_of_borrowed p [] = refl
any_of_borrowed p (k ∷ ks) = ap (λ b. p k.now || b) (any_of_borrowed p ks)
