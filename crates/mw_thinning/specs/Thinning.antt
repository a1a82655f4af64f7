-- Which records of a journal still count.
use Rattle.std.specs.Prelude.{ℕ, List, [], ◌∷◌, Bool, false, bytes_eq, if◌then◌else◌}
use Rattle.std.specs.List.{list_any}
use Rattle.mw_protocol.specs.Records.{Record, store}

-- whether a record stores a value under a key
abbrev pub stores : List ℕ → Record → Bool
stores key (store name value) = bytes_eq key name
stores key _ = false

-- whether one of the records does
abbrev pub is_stored : List ℕ → List Record → Bool
is_stored key records = list_any (stores key) records

-- whether a record stores a value under a key under which one of the later ones does
abbrev pub is_outdone : Record → List Record → Bool
is_outdone (store key value) later = is_stored key later
is_outdone _ later = false

-- the records without each that stores a value under a key under which a later one does
abbrev pub thinned : List Record → List Record
thinned [] = []
thinned (r ∷ rs) = if is_outdone r rs then thinned rs else r ∷ thinned rs
