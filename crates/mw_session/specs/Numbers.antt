-- The numbers of the sessions that were served.
use Rattle.std.specs.Prelude.{◌+◌, ◌≤◌, ◌==◌, ℕ, List, [], ◌∷◌, ◌++◌, Option, None, Some, if◌then◌else◌}
use Rattle.mw_session.specs.declared.served.Served.{Served}

-- the session of a link, if one was opened
abbrev pub number_of : Option ℕ → List ℕ
number_of None = []
number_of (Some n) = n ∷ []

abbrev pub numbers_of : {T : Type 0} → List (Served T) → List ℕ
numbers_of [] = []
numbers_of (e ∷ es) = number_of e.session ++ numbers_of es

abbrev pub all_numbers : {T : Type 0} → List (List (Served T)) → List ℕ
all_numbers [] = []
all_numbers (x ∷ xs) = numbers_of x ++ all_numbers xs

-- how often a number stands in a list
abbrev pub times : ℕ → List ℕ → ℕ
times n [] = 0
times n (m ∷ ms) = (if m == n then 1 else 0) + times n ms

-- no number stands in the list twice
abbrev pub NoneTwice : List ℕ → Type 0
NoneTwice ns = (n : ℕ) → times n ns ≤ 1
