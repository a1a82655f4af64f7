-- Reading locations one after the other, as a loop does.
use Rattle.std.proofs.Common.{◌≡◌, ℕ, ℤ, suc, ◌-◌, ◌+◌, ◌≤◌, ◌<◌, List, [], ◌∷◌, ◌++◌, Option, Some, None, refl, sym, ap, ◌∙◌, append_assoc, append-nil, arith}
use Rattle.mw_records.specs.declared.stop.Stop.{Stop}
use Rattle.mw_records.specs.declared.stop.Stop.TheVariants as stops
use Rattle.mw_records.specs.Reading.{◌>>=◌, Stops, location_at, each_location}

-- what was read before, and what is still read
abbrev pub with_front : List ℤ → Option (List ℤ × List ℕ) → Option (List ℤ × List ℕ)
with_front front read = read >>= λ x. Some (front ++ x.0, x.1)

regroup : (front : List ℤ) (l : ℤ) (read : Option (List ℤ × List ℕ)) → with_front front (read >>= λ x. Some (l ∷ x.0, x.1)) ≡ with_front (front ++ l ∷ []) read
regroup front l (Some x) = ap (λ (ls : List ℤ). Some (ls, x.1)) (simp append_assoc)
regroup front l None = refl

pub goes_on : (front : List ℤ) (count i : ℕ) (bytes : List ℕ) (l : ℤ) (after : List ℕ) (total : Option (List ℤ × List ℕ)) → i < count → location_at bytes ≡ Some (l, after)
    → with_front front (each_location (count - i) bytes) ≡ total → with_front (front ++ l ∷ []) (each_location (count - (i + 1)) after) ≡ total
unfolding each_location
goes_on front count i bytes l after total lt h so_far =
    let k : count - i ≡ suc (count - (i + 1)) = omega arith in
    let one : with_front front (each_location (count - i) bytes) ≡ with_front (front ++ l ∷ []) (each_location (count - (i + 1)) after) = rw (k, h) (regroup front l (each_location (count - (i + 1)) after)) in
    sym one ∙ so_far

pub ends : (e : Stop) (front : List ℤ) (count i : ℕ) (bytes : List ℕ) (total : Option (List ℤ × List ℕ)) → i < count → Stops e (location_at bytes)
    → with_front front (each_location (count - i) bytes) ≡ total → Stops e total
unfolding each_location
ends stops.Memory front count i bytes total lt h so_far = tt
ends stops.Bad front count i bytes total lt h so_far =
    let k : count - i ≡ suc (count - (i + 1)) = omega arith in
    let one : with_front front (each_location (count - i) bytes) ≡ None = rw (k, h) refl in
    sym so_far ∙ one

pub is_done : (front : List ℤ) (count i : ℕ) (bytes : List ℕ) (total : Option (List ℤ × List ℕ)) → count ≤ i → with_front front (each_location (count - i) bytes) ≡ total → total ≡ Some (front, bytes)
unfolding each_location
is_done front count i bytes total le so_far =
    let k : count - i ≡ 0 = omega arith in
    let one : with_front front (each_location (count - i) bytes) ≡ Some (front, bytes) = rw k (ap (λ (ls : List ℤ). Some (ls, bytes)) (append-nil front)) in
    sym so_far ∙ one
