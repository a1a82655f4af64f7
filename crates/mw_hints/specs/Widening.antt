-- Room for more keys of a map.
use Rattle.std.specs.Prelude.{◌≤◌, ◌+◌, ℕ, Option, MatchOption}
use Rattle.indexmap.specs.IndexMap.{IndexMap, IsEmpty, spare}

-- this many more keys have their place, here or in the wider map
abbrev pub IsWide : {K V S : Type 0} → Option (IndexMap K V S) → ℕ → ℕ → ℕ → Type 0
IsWide wide many space more =
    MatchOption wide (more ≤ space) (λ m. IsEmpty m × (many + more ≤ spare m))
