-- Lists of numbers that stand one after the other in one list.
use Rattle.std.specs.Prelude.{ℕ, zero, suc, ◌≡◌, ◌≤◌, List, [], ◌∷◌, length, slice_index, slice_range}

-- the lists: the first begins at this number, and each ends where the next one begins
abbrev pub cut_from : ℕ → List ℕ → List ℕ → List (List ℕ)
cut_from start [] numbers = []
cut_from start (e ∷ ends) numbers = slice_range numbers start e ∷ cut_from e ends numbers

-- the ends ascend, and the last one is the end of the numbers
abbrev pub AreEnds : ℕ → List ℕ → List ℕ → Type 0
AreEnds start [] numbers = start ≡ length numbers
AreEnds start (e ∷ ends) numbers = (start ≤ e) × AreEnds e ends numbers

-- where the list with this number begins
abbrev pub start_of : List ℕ → ℕ → ℕ
start_of ends zero = 0
start_of ends (suc k) = slice_index ends k
