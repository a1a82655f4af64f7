-- One name more in a row.
use Rattle.std.proofs.Common.{◌≡◌, ℕ, List, [], ◌∷◌, ◌++◌, Bool, true, length, refl, sym, ap, ◌∙◌, append_assoc, codes, nat_lt, map, take, get_or, ◌+◌, ◌<◌, arith, if◌then◌else◌}
use Rattle.std.proofs.lemmas.List.{map-append, length-map, length-take-le, take_more}
use Rattle.mw_protocol.specs.Commands.{joined_by, listed}

joined_push : (between first : List ℕ) (ts : List (List ℕ)) (t : List ℕ) → joined_by between ((first ∷ ts) ++ t ∷ []) ≡ joined_by between (first ∷ ts) ++ (between ++ t)
joined_push between first [] t = append_assoc first between t
joined_push between first (u ∷ ts) t =
    ap (λ r. first ++ between ++ r) (joined_push between u ts t) ∙ sym (append_assoc (first ++ between) (joined_by between (u ∷ ts)) (between ++ t))

pub listed_push : (ts : List (List ℕ)) (t : List ℕ) (i : ℕ) (after : Bool) → length ts ≡ i → after ≡ nat_lt 0 i
    → listed (ts ++ t ∷ []) ≡ listed ts ++ (if after then codes ", " ++ t else t)
listed_push [] t i after here is = rw (is, sym here) refl
listed_push (u ∷ ts) t i after here is =
    let more : after ≡ true = grind (arith, here, is) in
    rw more (joined_push (codes ", ") u ts t)

-- the next of a list
pub listed_next : {A : Type 0} (text : A → List ℕ) (after : Bool) (i : ℕ) (xs : List A) (x d : A) (old new : List ℕ) → i < length xs → x ≡ get_or xs i d
    → after ≡ nat_lt 0 i → old ≡ listed (map text (take i xs)) → new ≡ old ++ (if after then codes ", " ++ text x else text x) → new ≡ listed (map text (take (i + 1) xs))
listed_next text after i xs x d old new within here follows before made =
    let done = map text (take i xs) in
    let grown : take (i + 1) xs ≡ take i xs ++ x ∷ [] = take_more xs i d within ∙ ap (λ y. take i xs ++ y ∷ []) (sym here) in
    let mapped : map text (take (i + 1) xs) ≡ done ++ text x ∷ [] = ap (map text) grown ∙ map-append text (take i xs) (x ∷ []) in
    let long : length done ≡ i = length-map (take i xs) text ∙ length-take-le i xs (omega (arith, within)) in
    made ∙ ap (λ o. o ++ (if after then codes ", " ++ text x else text x)) before ∙ sym (listed_push done (text x) i after long follows) ∙ ap listed (sym mapped)
