-- Members of what is read.
use Rattle.std.specs.Prelude.{◌≡◌, ℕ, List}
use Rattle.mw_model.specs.Json.{Json, Members, no_members, member}

-- each is a key with what a reading gives for it
abbrev pub AreRead : (List ℕ → Json) → Members → Type 0
AreRead read no_members = Unit {0}
AreRead read (member k j ms) = (j ≡ read k) × AreRead read ms
