-- An index from id to name.
use Rattle.std.specs.Prelude.{◌≡◌, ℕ, ℤ, List, option_map}
use Rattle.std.specs.Ordering.{int_eq}
use Rattle.std.specs.HashMap.{HashMap, get}
use Rattle.mw_model.specs.Seed.{NamedId}
use Rattle.mw_protocol.specs.Commands.{name_among}
use Rattle.mw_protocol.specs.Connecting.{text_or_empty}

-- it has the first name of each id
abbrev pub IsIndex : {R S : Type 0} → (R → List ℕ) → List NamedId → HashMap ℤ R S → Type 0
IsIndex text names index =
    (id : ℤ) → text_or_empty (option_map text (get int_eq index id)) ≡ name_among id names
