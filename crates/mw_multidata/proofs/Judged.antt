-- What the judgement of a name tells, and lists of names that differ.
use Rattle.std.proofs.Common.{◌≡◌, ◌++◌, ℕ, List, [], ◌∷◌, Bool, true, false, Option, Some, None, refl, sym, ◌∙◌}
use Rattle.std.specs.Prelude.{IfOk, bytes_eq, not}
use Rattle.std.specs.List.{IsDistinct, AllByRecursion}
use Rattle.mw_json.specs.declared.refusal.Kind.{Kind}
use Rattle.mw_multidata.specs.Names.{demand, known, has_name}
use Rattle.mw_multidata.proofs.Bools.{neither}
use Rattle.mw_multidata.proofs.Names.{has_name_append}

pub not_false : (kind : Kind) (b : Bool) → IfOk (demand kind (not b)) (λ _. b ≡ false)
not_false kind true = tt
not_false kind false = refl

pub demanded : (kind : Kind) (b : Bool) → IfOk (demand kind b) (λ _. b ≡ true)
demanded kind true = refl
demanded kind false = tt

pub known_kept : {A : Type 0} (found : Option A) → IfOk (known found) (λ x. found ≡ Some x)
known_kept None = tt
known_kept (Some x) = refl

-- ---- names

-- none of these is among those before
abbrev pub NewNames : List (List ℕ) → List (List ℕ) → Type 0
NewNames before [] = Unit {0}
NewNames before (n ∷ ns) = (has_name before n ≡ false) × NewNames before ns

abbrev pub Differ : List (List ℕ) → Type 0
Differ ns = IsDistinct bytes_eq ns

pub split_names : (xs ys ns : List (List ℕ)) → NewNames (xs ++ ys) ns → NewNames xs ns × NewNames ys ns
split_names xs ys [] h = (tt, tt)
split_names xs ys (n ∷ ns) h =
    let both : (has_name xs n ≡ false) × (has_name ys n ≡ false) = neither (has_name xs n) (has_name ys n) (sym (has_name_append xs ys n) ∙ h.0) in
    let rest : NewNames xs ns × NewNames ys ns = split_names xs ys ns h.1 in
    ((both.0, rest.0), (both.1, rest.1))

pub both_new : (before xs ys : List (List ℕ)) → NewNames before xs → NewNames before ys → NewNames before (xs ++ ys)
both_new before [] ys h k = k
both_new before (x ∷ xs) ys h k = (h.0, both_new before xs ys h.1 k)

pub apart_from : (x : List ℕ) (xs ys : List (List ℕ)) → NewNames (x ∷ xs) ys → AllByRecursion (λ y. bytes_eq x y ≡ false) ys × NewNames xs ys
apart_from x xs [] h = (tt, tt)
apart_from x xs (y ∷ ys) h =
    let both : (bytes_eq x y ≡ false) × (has_name xs y ≡ false) = neither (bytes_eq x y) (has_name xs y) h.0 in
    let rest : AllByRecursion (λ y. bytes_eq x y ≡ false) ys × NewNames xs ys = apart_from x xs ys h.1 in
    ((both.0, rest.0), (both.1, rest.1))

pub all_apart : (x : List ℕ) (xs ys : List (List ℕ)) → AllByRecursion (λ y. bytes_eq x y ≡ false) xs → AllByRecursion (λ y. bytes_eq x y ≡ false) ys → AllByRecursion (λ y. bytes_eq x y ≡ false) (xs ++ ys)
all_apart x [] ys h k = k
all_apart x (z ∷ xs) ys h k = (h.0, all_apart x xs ys h.1 k)

pub both_differ : (xs ys : List (List ℕ)) → Differ xs → Differ ys → NewNames xs ys → Differ (xs ++ ys)
unfolding IsDistinct
both_differ [] ys d e h = e
both_differ (x ∷ xs) ys d e h =
    let apart : AllByRecursion (λ y. bytes_eq x y ≡ false) ys × NewNames xs ys = apart_from x xs ys h in
    (all_apart x xs ys d.0 apart.0, both_differ xs ys d.1 e apart.1)
