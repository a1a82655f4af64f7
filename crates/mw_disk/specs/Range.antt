-- What a read of a disk gives, and what a write and a cut leave.
use Rattle.std.specs.Prelude.{◌≡◌, ℕ, ◌+◌, ◌-◌, min, List, ◌++◌, length, take, drop, replicate, Option, Some, None}

-- of a disk that isn't told anything; of one that is, as many of the bytes from a place on as are
-- asked for, or as there are
abbrev pub GivesRange : Option (List ℕ) → ℕ → ℕ → List ℕ → Type 0
GivesRange None at count into = Unit {0}
GivesRange (Some bytes) at count into =
    (count ≡ min (length into) (length bytes - at)) × (take count into ≡ take count (drop at bytes))

-- the bytes after a write at a place; a gap behind the old end holds zeros
abbrev pub written : ℕ → List ℕ → List ℕ → List ℕ
written at put bytes =
    take at bytes ++ replicate (at - length bytes) 0 ++ put ++ drop (at + length put) bytes
