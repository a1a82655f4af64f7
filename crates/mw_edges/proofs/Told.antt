-- What told bytes become over several calls.
use Rattle.std.proofs.Common.{◌≡◌, ℕ, zero, suc, ◌+◌, ◌-◌, ◌≤◌, List, [], ◌∷◌, ◌++◌, length, take, drop, None, Some, refl, sym, ap, subst, ◌∙◌, append_assoc, take-append-drop, zero-add, suc-add, take_all, length-drop, le_of_eq, arith}
use Rattle.std.specs.declared.option.Option.{Option}
use Rattle.std.specs.Io.KnownBytes.{Appends, Keeps}
use Rattle.mw_edges.specs.Causes.{PutsFront}

pub Appends-trans : (a b c : Option (List ℕ)) (bs cs : List ℕ) → Appends a b bs → Appends b c cs → Appends a c (bs ++ cs)
Appends-trans None b c bs cs p q = tt
Appends-trans (Some x) None c bs cs p q = absurd p
Appends-trans (Some x) (Some y) None bs cs p q = absurd q
Appends-trans (Some x) (Some y) (Some z) bs cs p q = q ∙ ap (λ l. l ++ cs) p ∙ append_assoc x bs cs

-- bytes that were put stay over calls that put none
pub Appends-kept : (a b c : Option (List ℕ)) (bs : List ℕ) → Appends a b bs → Keeps b c → Appends a c bs
Appends-kept None b c bs p q = tt
Appends-kept (Some x) None c bs p q = absurd p
Appends-kept (Some x) (Some y) None bs p q = absurd q
Appends-kept (Some x) (Some y) (Some z) bs p q = q ∙ p

pub take-empty : (n : ℕ) → take n (let none : List ℕ = [] in none) ≡ []
take-empty zero = refl
take-empty (suc n) = refl

-- two fronts, one after the other, are one
pub take-take_drop : (i n : ℕ) (bs : List ℕ) → take i bs ++ take n (drop i bs) ≡ take (i + n) bs
take-take_drop zero n bs = ap (λ k. take k bs) (sym (zero-add n))
take-take_drop (suc i) n [] = take-empty n ∙ sym (take-empty (suc i + n))
take-take_drop (suc i) n (x ∷ xs) = ap (λ l. x ∷ l) (take-take_drop i n xs) ∙ sym (ap (λ k. take k (x ∷ xs)) (suc-add i n))

-- the rest from a place, as a slice up to the end
abbrev pub rest_from : ℕ → List ℕ → List ℕ
rest_from i bs = take (length bs - i) (drop i bs)

pub rest-drop : (i : ℕ) (bs : List ℕ) → rest_from i bs ≡ drop i bs
rest-drop i bs = take_all (length bs - i) (drop i bs) (le_of_eq (length-drop i bs))

-- what is written of the rest stays within the whole
pub within-rest : (i n : ℕ) (bs : List ℕ) → i ≤ length bs → n ≤ length (rest_from i bs) → i + n ≤ length bs
within-rest i n bs h k = let fits : n ≤ length bs - i = subst (λ m. n ≤ m) (ap length (rest-drop i bs) ∙ length-drop i bs) k in omega arith

-- a further write of the rest
pub Appends-more : (a b c : Option (List ℕ)) (i n : ℕ) (bs : List ℕ) → Appends a b (take i bs) → Appends b c (take n (rest_from i bs)) → Appends a c (take (i + n) bs)
Appends-more a b c i n bs p q =
    let further : Appends b c (take n (drop i bs)) = subst (λ l. Appends b c (take n l)) (rest-drop i bs) q in
    subst (Appends a c) (take-take_drop i n bs) (Appends-trans a b c _ _ p further)

-- a front up to a place is some front
pub PutsFront-take : (a b : Option (List ℕ)) (i : ℕ) (bs : List ℕ) → Appends a b (take i bs) → PutsFront a b bs
PutsFront-take a b i bs p = (take i bs, drop i bs, sym (take-append-drop i bs), p)

-- after a call that put none, a front up to a place is still some front
pub PutsFront-kept : (a b c : Option (List ℕ)) (i : ℕ) (bs : List ℕ) → Appends a b (take i bs) → Keeps b c → PutsFront a c bs
PutsFront-kept a b c i bs p q = PutsFront-take a c i bs (Appends-kept a b c _ p q)
