-- Elements of lists.
use Rattle.std.proofs.Common.{◌≡◌, ◌<◌, ◌+◌, ◌++◌, ℕ, zero, suc, List, [], ◌∷◌, Bool, false, Some, length, map, option_map, get_or, slice_get, refl, sym, subst, arith}
use Rattle.std.specs.List.{IsDistinct, AllByRecursion}
use Rattle.std.specs.Prelude.{All, Contains}
use Rattle.std.proofs.lemmas.List.Elements.{Contains-append_left, Contains-append_right}
use Rattle.mw_multi.specs.Numbered.{each_numbered}

pub within : {A : Type 0} (xs : List A) (k : ℕ) (x : A) → slice_get xs k ≡ Some x → (k < length xs) × (get_or xs k x ≡ x)
within [] k x e = cc
within (y ∷ xs) zero x e = (omega arith, cc)
within (y ∷ xs) (suc k) x e = let later = within xs k x e in (omega (arith, later.0), later.1)

pub holds_at : {A : Type 0} (P : A → Type 0) (xs : List A) (k : ℕ) (x : A) → All P xs → slice_get xs k ≡ Some x → P x
holds_at P xs k x h e = let there = within xs k x e in subst P there.1 (h k x there.0)

pub holds_in : {A : Type 0} (P : A → Type 0) (xs : List A) (x : A) → All P xs → Contains xs x → P x
holds_in P xs x h (k, l, e) = subst P e (h k x l)

pub get_mapped : {A B : Type 0} (f : A → B) (xs : List A) (k : ℕ) → slice_get (map f xs) k ≡ option_map f (slice_get xs k)
get_mapped f [] k = refl
get_mapped f (x ∷ xs) zero = refl
get_mapped f (x ∷ xs) (suc k) = get_mapped f xs k

-- what some element gives is among what all give
pub in_numbered : {A B : Type 0} (f : ℕ → A → List B) (number : ℕ) (xs : List A) (k : ℕ) (x : A) (y : B) → slice_get xs k ≡ Some x → Contains (f (number + k) x) y → Contains (each_numbered f number xs) y
in_numbered f number [] k x y e c = cc
in_numbered f number (z ∷ xs) zero x y e c =
    let same : z ≡ x = cc in
    let at : number + 0 ≡ number = omega arith in
    Contains-append_left (f number z) (each_numbered f (suc number) xs) y (subst (λ n. Contains (f n z) y) at (subst (λ v. Contains (f (number + 0) v) y) (sym same) c))
in_numbered f number (z ∷ xs) (suc k) x y e c =
    let at : number + suc k ≡ suc number + k = omega arith in
    Contains-append_right (f number z) (each_numbered f (suc number) xs) y (in_numbered f (suc number) xs k x y e (subst (λ n. Contains (f n x) y) at c))

pub here : {A : Type 0} (x : A) (xs : List A) → xs ≡ x ∷ [] → Contains xs x
here x xs e = subst (λ ys. Contains ys x) (sym e) (0, omega arith, refl)

pub unmapped : {A B : Type 0} (f : A → B) (xs : List A) (k : ℕ) (y : B) → slice_get (map f xs) k ≡ Some y → (x : A) × (slice_get xs k ≡ Some x) × (f x ≡ y)
unmapped f [] k y e = cc
unmapped f (x ∷ xs) zero y e = let same : f x ≡ y = cc in (x, refl, same)
unmapped f (x ∷ xs) (suc k) y e = unmapped f xs k y e

-- ---- what is distinct

each_front : {X : Type 0} (P : X → Type 0) (xs ys : List X) → AllByRecursion P (xs ++ ys) → AllByRecursion P xs
each_front P [] ys h = tt
each_front P (x ∷ xs) ys h = (h.0, each_front P xs ys h.1)

pub distinct_front : {X : Type 0} (e : X → X → Bool) (xs ys : List X) → IsDistinct e (xs ++ ys) → IsDistinct e xs
unfolding IsDistinct
distinct_front e [] ys h = tt
distinct_front e (x ∷ xs) ys h = (each_front (λ y. e x y ≡ false) xs ys h.0, distinct_front e xs ys h.1)
