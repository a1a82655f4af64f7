-- The index of a name in labels that grow at their end.
use Rattle.std.proofs.Common.{◌≡◌, ℕ, suc, ◌+◌, ◌<◌, List, [], ◌∷◌, ◌++◌, length, take, get_or, Bool, true, false, refl, arith, ap, ◌∙◌, cond, add-one}
use Rattle.std.specs.Prelude.{Option, Some, None}
use Rattle.std.specs.List.{position_from}
use Rattle.std.proofs.Math.Seq.{take-suc}
use Rattle.std.proofs.lemmas.List.{length-take}
use Rattle.mw_multi.specs.Indexes.{or_here}
use Rattle.mw_multi.specs.Labels.{is_called, index_of}

-- where the first element may be the one
first_or_later : (b : Bool) (n : ℕ) (more before : Option ℕ) (c : Bool) (m k : ℕ) → m ≡ k → more ≡ or_here before c m → cond b (Some n) more ≡ or_here (cond b (Some n) before) c k
first_or_later true n more before c m k same later = refl
first_or_later false n more before c m k same later = later ∙ ap (or_here before c) same

only_one : (b : Bool) (n m : ℕ) → n ≡ m → cond b (Some n) None ≡ cond b (Some m) None
only_one b n m same = ap (λ k. cond b (Some k) None) same

pub position_push : {X : Type 0} (p : X → Bool) (n : ℕ) (xs : List X) (x : X) → position_from p n (xs ++ x ∷ []) ≡ or_here (position_from p n xs) (p x) (n + length xs)
position_push p n [] x = only_one (p x) n (n + 0) (omega arith)
position_push p n (y ∷ xs) x = first_or_later (p y) n _ (position_from p (n + 1) xs) (p x) (n + 1 + length xs) (n + suc (length xs)) (omega arith) (position_push p (n + 1) xs x)

pub index_more : (labels : List (Option (List ℕ))) (i : ℕ) (q : List ℕ) (d : Option (List ℕ)) → i < length labels
    → index_of (take (i + 1) labels) q ≡ or_here (index_of (take i labels) q) (is_called q (get_or labels i d)) i
index_more labels i q d h =
    rw (add-one, take-suc labels i d h)
    (position_push (is_called q) 0 (take i labels) (get_or labels i d) ∙ ap (or_here (index_of (take i labels) q) (is_called q (get_or labels i d))) (omega (arith, length-take i labels)))
