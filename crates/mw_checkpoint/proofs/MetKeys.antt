-- Keys that were met, and the records that count before them.
use Rattle.std.proofs.Common.{◌≡◌, ◌∙◌, ◌<◌, ◌+◌, ℕ, List, [], ◌∷◌, ◌++◌, Bool, true, false, ◌||◌, Bor, map, ◌≤◌, ◌-◌, length, get_or, drop, reverse, refl, sym, ap, arith}
use Rattle.std.specs.Prelude.{bytes_eq, not, if◌then◌else◌}
use Rattle.std.specs.List.{list_any}
use Rattle.std.proofs.lemmas.List.{drop_more, map-append, reverse-append}
use Rattle.mw_protocol.specs.Records.{Record}
use Rattle.mw_thinning.specs.Thinning.{is_outdone, thinned}
use Rattle.mw_checkpoint.specs.Keys.{has_key, with_key}

pub any_of_borrowed : (p : List ℕ → Bool) (ks : List (Bor (List ℕ))) → list_any p (map (λ k. k.now) ks) ≡ list_any (λ k. p k.now) ks
any_of_borrowed p [] = refl
any_of_borrowed p (k ∷ ks) = ap (λ b. p k.now || b) (any_of_borrowed p ks)

-- borrowed keys with one more
pub borrowed_with : (ks : List (Bor (List ℕ))) (k : Bor (List ℕ))
    → map (λ x. x.now) (if list_any (λ x. bytes_eq k.now x.now) ks then ks else ks ++ k ∷ []) ≡ with_key (map (λ x. x.now) ks) k.now
borrowed_with ks k = by_test (list_any (λ x. bytes_eq k.now x.now) ks) (any_of_borrowed (bytes_eq k.now) ks)
  where
    by_test : (b : Bool) → has_key (map (λ x. x.now) ks) k.now ≡ b → map (λ x. x.now) (if b then ks else ks ++ k ∷ []) ≡ with_key (map (λ x. x.now) ks) k.now
    by_test true there = sym (ap (λ b. if b then map (λ x. x.now) ks else map (λ x. x.now) ks ++ k.now ∷ []) there)
    by_test false there = map-append (λ x. x.now) ks (k ∷ []) ∙ sym (ap (λ b. if b then map (λ x. x.now) ks else map (λ x. x.now) ks ++ k.now ∷ []) there)

-- one record more, from the end
pub kept_more : (counts : Bool) (r : Record) (later : List Record) → counts ≡ not (is_outdone r later)
    → thinned (r ∷ later) ≡ (if counts then r ∷ thinned later else thinned later)
kept_more counts r later is = by_test (is_outdone r later) refl counts is
  where
    by_test : (b : Bool) → is_outdone r later ≡ b → (counts : Bool) → counts ≡ not (is_outdone r later)
        → (if b then thinned later else r ∷ thinned later) ≡ (if counts then r ∷ thinned later else thinned later)
    by_test true out true is = let no : true ≡ false = is ∙ ap not out in absurd cc
    by_test true out false is = refl
    by_test false out true is = refl
    by_test false out false is = let no : false ≡ true = is ∙ ap not out in absurd cc

-- the list from one place before
pub one_before : {A : Type 0} (xs : List A) (left : ℕ) (x : A) → 0 < left → left ≤ length xs → x ≡ get_or xs (left - 1) x
    → drop (left - 1) xs ≡ x ∷ drop left xs
one_before xs left x some within is =
    drop_more xs (left - 1) x (omega (arith, some, within)) ∙ ap (λ y. y ∷ drop (left - 1 + 1) xs) (sym is)
    ∙ ap (λ n. x ∷ drop n xs) (let back : left - 1 + 1 ≡ left = omega (arith, some) in back)

pub reverse_first : {A : Type 0} (x : A) (xs : List A) → reverse (x ∷ xs) ≡ reverse xs ++ x ∷ []
reverse_first x xs = reverse-append (x ∷ []) xs

pub map_reverse : {A B : Type 0} (f : A → B) (xs : List A) → map f (reverse xs) ≡ reverse (map f xs)
map_reverse f [] = refl
map_reverse f (x ∷ xs) = ap (map f) (reverse_first x xs) ∙ map-append f (reverse xs) (x ∷ []) ∙ ap (λ l. l ++ f x ∷ []) (map_reverse f xs)
    ∙ sym (reverse_first (f x) (map f xs))
