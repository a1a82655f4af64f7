-- Keys under which records store values.
use Rattle.std.specs.Prelude.{◌≡◌, ℕ, List, [], ◌∷◌, ◌++◌, Bool, bytes_eq, if◌then◌else◌}
use Rattle.std.specs.List.{list_any}
use Rattle.mw_protocol.specs.Records.{Record}
use Rattle.mw_thinning.specs.Thinning.{is_stored}

-- a key is among some
abbrev pub has_key : List (List ℕ) → List ℕ → Bool
has_key keys key = list_any (bytes_eq key) keys

-- the keys, with one more unless it is among them
abbrev pub with_key : List (List ℕ) → List ℕ → List (List ℕ)
with_key keys key = if has_key keys key then keys else keys ++ key ∷ []

-- the keys are those under which the records store values
abbrev pub AreKeysOf : List (List ℕ) → List Record → Type 0
AreKeysOf keys records = (key : List ℕ) → has_key keys key ≡ is_stored key records
