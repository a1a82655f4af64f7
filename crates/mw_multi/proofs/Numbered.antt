-- Lists that are made element by element.
use Rattle.std.proofs.Common.{◌≡◌, ℕ, zero, suc, ◌+◌, ◌<◌, ◌≤◌, List, [], ◌∷◌, ◌++◌, length, get_or, take, All, refl, sym, ap, ap₂, subst, ◌∙◌, arith, append_assoc, append-nil}
use Rattle.std.specs.Prelude.{sum_by}
use Rattle.std.proofs.lemmas.List.{length-append}
use Rattle.std.proofs.lemmas.List.Elements.{All-nil, All-append}
use Rattle.std.proofs.lemmas.List.Sums.{sum_by-cons}
use Rattle.mw_multi.specs.Numbered.{each_numbered}

later : {A B : Type 0} (f : ℕ → A → List B) (number : ℕ) (xs : List A) (k : ℕ) (x : A) → k < length xs → x ≡ get_or xs k x
    → each_numbered f number (take (suc k) xs) ≡ each_numbered f number (take k xs) ++ f (number + k) x
later f number [] k x h e = absurd (omega arith)
later f number (y ∷ xs) zero x h e =
    let at : number ≡ number + 0 = omega arith in
    append-nil (f number y) ∙ ap₂ f at (sym e)
later f number (y ∷ xs) (suc k) x h e =
    let at : suc number + k ≡ number + suc k = omega arith in
    ap (λ rest. f number y ++ rest) (later f (suc number) xs k x (omega arith) e)
    ∙ sym (append_assoc (f number y) (each_numbered f (suc number) (take k xs)) (f (suc number + k) x))
    ∙ ap (λ n. (f number y ++ each_numbered f (suc number) (take k xs)) ++ f n x) at

-- one element more
pub numbered_more : {A B : Type 0} (f : ℕ → A → List B) (number : ℕ) (xs : List A) (k : ℕ) (x : A) → k < length xs → x ≡ get_or xs k x
    → each_numbered f number (take (k + 1) xs) ≡ each_numbered f number (take k xs) ++ f (number + k) x
numbered_more f number xs k x h e =
    let one_more : k + 1 ≡ suc k = omega arith in
    ap (λ n. each_numbered f number (take n xs)) one_more ∙ later f number xs k x h e

-- no more than the sum of what each element gives at most
pub numbered_le : {A B : Type 0} (f : ℕ → A → List B) (size : A → ℕ) (number : ℕ) (xs : List A) → ((n : ℕ) → All (λ x. length (f n x) ≤ size x) xs) → length (each_numbered f number xs) ≤ sum_by size xs
numbered_le f size number [] h = omega arith
numbered_le f size number (x ∷ xs) h =
    let here : length (f number x) ≤ size x = h number 0 x (omega arith) in
    omega (arith, length-append (f number x) (each_numbered f (suc number) xs), sum_by-cons size x xs, numbered_le f size (suc number) xs (λ n i d l. h n (suc i) d (omega arith)))

-- what holds of what each element gives
pub numbered_all : {A B : Type 0} (P : B → Type 0) (f : ℕ → A → List B) (number : ℕ) (xs : List A) → ((k : ℕ) (x : A) → k < length xs → x ≡ get_or xs k x → All P (f (number + k) x)) → All P (each_numbered f number xs)
numbered_all P f number [] h = All-nil P
numbered_all P f number (x ∷ xs) h =
    All-append P (f number x) (each_numbered f (suc number) xs) (let at : number + 0 ≡ number = omega arith in subst (λ n. All P (f n x)) at (h 0 x (omega arith) refl))
    (numbered_all P f (suc number) xs (λ k y l e. let at : number + suc k ≡ suc number + k = omega arith in subst (λ n. All P (f n y)) at (h (suc k) y (omega arith) e)))
