-- Where an entry stands.
use Rattle.std.specs.Prelude.{ℕ, ◌+◌, List, [], ◌∷◌, bytes_eq, if◌then◌else◌}

-- the place of the first entry of a name, or the number of entries where none has it
abbrev pub place_in : {T : Type 0} → List (List ℕ × T) → List ℕ → ℕ
place_in [] name = 0
place_in (entry ∷ entries) name =
    if bytes_eq entry.0 name then 0 else 1 + place_in entries name
