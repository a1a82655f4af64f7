-- How much room a rule leaves.
use Rattle.std.specs.Prelude.{ℕ, ◌-◌, Option, Some, None, nat_le, if◌then◌else◌}

-- what is left of the room, where there is enough
abbrev pub room_left : ℕ → ℕ → Option ℕ
room_left room n = if nat_le n room then Some (room - n) else None
