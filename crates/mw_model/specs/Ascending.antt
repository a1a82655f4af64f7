-- Lists that ascend strictly.
use Rattle.std.specs.Prelude.{◌≡◌, ℕ, List, [], ◌∷◌}
use Rattle.std.specs.Cmp.Lexicographic.{slice_cmp}
use Rattle.std.specs.Ordering.{nat_cmp}
use Rattle.std.specs.declared.cmp.Ordering.{Ordering}
use Rattle.std.specs.declared.cmp.Ordering.TheVariants.{Less}

-- each of these comes after it
abbrev pub ComesBefore : {K : Type 0} → (K → K → Ordering) → K → List K → Type 0
ComesBefore cmp k [] = Unit {0}
ComesBefore cmp k (l ∷ ls) = (cmp k l ≡ Less) × ComesBefore cmp k ls

-- each comes before all that follow it
abbrev pub Ascend : {K : Type 0} → (K → K → Ordering) → List K → Type 0
Ascend cmp [] = Unit {0}
Ascend cmp (k ∷ ks) = ComesBefore cmp k ks × Ascend cmp ks

-- these names ascend in byte order
abbrev pub NamesAscend : List (List ℕ) → Type 0
NamesAscend names = Ascend (slice_cmp nat_cmp) names
