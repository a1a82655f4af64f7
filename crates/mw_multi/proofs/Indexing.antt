-- The first place of a name or an id in a table that grows at its end.
use Rattle.std.proofs.Common.{◌≡◌, ℕ, ℤ, suc, ◌+◌, ◌<◌, List, [], ◌∷◌, ◌++◌, length, Bool, true, false, Option, Some, None, option_map, if◌then◌else◌, get_or, take, map, refl, sym, subst, ap, ◌∙◌, arith}
use Rattle.std.specs.Prelude.{bytes_eq, IfSome}
use Rattle.std.specs.Ordering.{int_eq}
use Rattle.std.proofs.lemmas.List.{map-append, length-map, length-take-le, take_more}
use Rattle.mw_multi.specs.Indexes.{index_of_name, index_of_id, or_here, or_its_place}

later : (found : Option ℕ) (here : Bool) (i : ℕ) → option_map suc (or_here found here i) ≡ or_here (option_map suc found) here (suc i)
later (Some k) here i = refl
later None true i = refl
later None false i = refl

first_or : (b : Bool) (found : Option ℕ) (here : Bool) (i : ℕ) → (if b then Some 0 else option_map suc (or_here found here i)) ≡ or_here (if b then Some 0 else option_map suc found) here (suc i)
first_or true found here i = refl
first_or false found here i = later found here i

step : (b : Bool) (found : Option ℕ) (count : ℕ) → IfSome found (λ i. i < count) → IfSome (if b then Some 0 else option_map suc found) (λ i. i < suc count)
step true found count h = omega arith
step false (Some i) count h = omega (arith, h)
step false None count h = tt

pub index_of_name-push : (ns : List (List ℕ)) (n q : List ℕ) → index_of_name (ns ++ n ∷ []) q ≡ or_here (index_of_name ns q) (bytes_eq n q) (length ns)
index_of_name-push [] n q = refl
index_of_name-push (m ∷ ns) n q = ap (λ found. if bytes_eq m q then Some 0 else option_map suc found) (index_of_name-push ns n q) ∙ first_or (bytes_eq m q) (index_of_name ns q) (bytes_eq n q) (length ns)

pub index_of_id-push : (ids : List (Option ℤ)) (id : Option ℤ) (q : ℤ) → index_of_id (ids ++ id ∷ []) q ≡ or_its_place (index_of_id ids q) id q (length ids)
index_of_id-push [] (Some id) q = refl
index_of_id-push [] None q = refl
index_of_id-push (Some x ∷ ids) (Some id) q = ap (λ found. if int_eq x q then Some 0 else option_map suc found) (index_of_id-push ids (Some id) q) ∙ first_or (int_eq x q) (index_of_id ids q) (int_eq id q) (length ids)
index_of_id-push (Some x ∷ ids) None q = ap (λ found. if int_eq x q then Some 0 else option_map suc found) (index_of_id-push ids None q)
index_of_id-push (None ∷ ids) (Some id) q = ap (option_map suc) (index_of_id-push ids (Some id) q) ∙ later (index_of_id ids q) (int_eq id q) (length ids)
index_of_id-push (None ∷ ids) None q = ap (option_map suc) (index_of_id-push ids None q)

-- one row of a table more
pub index_of_name-more : {X : Type 0} (name_of : X → List ℕ) (xs : List X) (i : ℕ) (x : X) (q : List ℕ) → i < length xs → x ≡ get_or xs i x
    → index_of_name (map name_of (take (i + 1) xs)) q ≡ or_here (index_of_name (map name_of (take i xs)) q) (bytes_eq (name_of x) q) i
index_of_name-more name_of xs i x q within is =
    let grown : take (i + 1) xs ≡ take i xs ++ x ∷ [] = take_more xs i x within ∙ ap (λ y. take i xs ++ y ∷ []) (sym is) in
    let count : length (map name_of (take i xs)) ≡ i = length-map (take i xs) name_of ∙ length-take-le i xs (omega arith) in
    ap (λ ys. index_of_name (map name_of ys) q) grown ∙ ap (λ ns. index_of_name ns q) (map-append name_of (take i xs) (x ∷ []))
    ∙ index_of_name-push (map name_of (take i xs)) (name_of x) q ∙ ap (or_here (index_of_name (map name_of (take i xs)) q) (bytes_eq (name_of x) q)) count

pub index_of_id-more : {X : Type 0} (id_of : X → Option ℤ) (xs : List X) (i : ℕ) (x : X) (q : ℤ) → i < length xs → x ≡ get_or xs i x
    → index_of_id (map id_of (take (i + 1) xs)) q ≡ or_its_place (index_of_id (map id_of (take i xs)) q) (id_of x) q i
index_of_id-more id_of xs i x q within is =
    let grown : take (i + 1) xs ≡ take i xs ++ x ∷ [] = take_more xs i x within ∙ ap (λ y. take i xs ++ y ∷ []) (sym is) in
    let count : length (map id_of (take i xs)) ≡ i = length-map (take i xs) id_of ∙ length-take-le i xs (omega arith) in
    ap (λ ys. index_of_id (map id_of ys) q) grown ∙ ap (λ ids. index_of_id ids q) (map-append id_of (take i xs) (x ∷ []))
    ∙ index_of_id-push (map id_of (take i xs)) (id_of x) q ∙ ap (or_its_place (index_of_id (map id_of (take i xs)) q) (id_of x) q) count

pub names_as_they_are : (ns : List (List ℕ)) → map (λ n. n) ns ≡ ns
names_as_they_are [] = refl
names_as_they_are (n ∷ ns) = ap (λ ms. n ∷ ms) (names_as_they_are ns)

-- a name's place is in the table
pub index_of_name-within : (ns : List (List ℕ)) (q : List ℕ) → IfSome (index_of_name ns q) (λ i. i < length ns)
index_of_name-within [] q = tt
index_of_name-within (n ∷ ns) q = step (bytes_eq n q) (index_of_name ns q) (length ns) (index_of_name-within ns q)

pub place_is_small : (ns : List (List ℕ)) (q : List ℕ) (i : ℕ) → index_of_name ns q ≡ Some i → i < length ns
place_is_small ns q i e = subst (λ found. IfSome found (λ k. k < length ns)) e (index_of_name-within ns q)
