-- A packet's further members.
use Rattle.std.specs.Prelude.{ℕ, List, if◌then◌else◌}
use Rattle.mw_model.specs.Json.{Members, no_members, member}
use Rattle.mw_model.specs.Texts.{has_text}

-- the members whose names aren't among these
abbrev pub others : List (List ℕ) → Members → Members
others names no_members = no_members
others names (member k j ms) =
    if has_text names k then others names ms else member k j (others names ms)
