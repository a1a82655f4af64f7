-- Lists that grow element by element as a loop goes through another list.
use Rattle.std.proofs.Common.{◌≡◌, ◌<◌, ◌+◌, ℕ, suc, List, [], ◌∷◌, ◌++◌, length, map, flat_map, take, drop, get_or, sym, ap, ap₂, ◌∙◌, arith, drop-cons}
use Rattle.std.proofs.lemmas.List.{take_more, map_push, flat_map_more}

pub next : {X : Type 0} (xs : List X) (i : ℕ) (y : X) → i < length xs → y ≡ get_or xs i y → take (i + 1) xs ≡ take i xs ++ y ∷ []
next xs i y h is = take_more xs i y h ∙ ap (λ x. take i xs ++ x ∷ []) (sym is)

-- the next of a list, and what comes after it
pub drop_next : {X : Type 0} (xs : List X) (i : ℕ) (x : X) → i < length xs → x ≡ get_or xs i x → drop i xs ≡ x ∷ drop (i + 1) xs
drop_next xs i x h is =
    let one_more : suc i ≡ i + 1 = omega arith in
    drop-cons xs i x h ∙ ap (λ y. y ∷ drop (suc i) xs) (sym is) ∙ ap (λ k. x ∷ drop k xs) one_more

pub mapped : {X Y : Type 0} (f : X → Y) (xs : List X) (before after : List Y) (i : ℕ) (z : Y) (y : X) → i < length xs → y ≡ get_or xs i y → after ≡ before ++ z ∷ [] → before ≡ map f (take i xs) → z ≡ f y
    → after ≡ map f (take (i + 1) xs)
mapped {Y = Y} f xs before after i z y h is grown so same =
    grown ∙ ap₂ (λ (zs : List Y) x. zs ++ x ∷ []) so same ∙ sym (map_push f (take i xs) y) ∙ ap (map f) (sym (next xs i y h is))

pub gathered : {X Y : Type 0} (f : X → List Y) (xs : List X) (before after : List Y) (i : ℕ) (y : X) → i < length xs → y ≡ get_or xs i y → after ≡ before ++ f y → before ≡ flat_map f (take i xs)
    → after ≡ flat_map f (take (i + 1) xs)
gathered f xs before after i y h is grown so =
    grown ∙ ap (λ zs. zs ++ f y) so ∙ flat_map_more f [] (take i xs) y ∙ ap (flat_map f) (sym (next xs i y h is))
