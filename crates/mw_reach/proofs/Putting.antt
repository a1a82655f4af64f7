-- What is found in a table where more is put.
use Rattle.std.proofs.Common.{◌≡◌, ℕ, zero, suc, ◌+◌, ◌<◌, Bool, true, false, cond, List, [], ◌∷◌, ◌++◌, length, get_or, set, arith}
use Rattle.mw_rules.specs.Holds.{Places}
use Rattle.mw_reach.specs.Reach.{Placed, times_in, found_from}
use Rattle.mw_reach.proofs.Items.{times_in-append}

entry_on : (b : Bool) (n : ℕ) (xs ys : List ℕ) → cond b (times_in n (xs ++ ys)) 0 ≡ cond b (times_in n xs) 0 + cond b (times_in n ys) 0
entry_on true n xs ys = times_in-append n xs ys
entry_on false n xs ys = omega arith

-- more in one entry
pub found_set : (k n : ℕ) (table : Placed) (ns : List ℕ) (w : Places) (i : ℕ) → n < length table → found_from k (set table n (get_or table n [] ++ ns)) w i ≡ found_from k table w i + cond (w (k + n)) (times_in i ns) 0
found_set k n [] ns w i h = absurd (omega arith)
found_set k zero (x ∷ table) ns w i h =
    let at : k + 0 ≡ k = omega arith in
    rw at (omega (arith, entry_on (w k) i x ns))
found_set k (suc n) (x ∷ table) ns w i h =
    let at : k + suc n ≡ suc k + n = omega arith in
    rw at (omega (arith, found_set (suc k) n table ns w i (omega arith)))
