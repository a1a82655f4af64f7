-- Statuses of slots and of hints, by their numbers in the protocol.
use Rattle.std.specs.Prelude.{ℕ, ◌==◌, ◌||◌, Bool}

-- unknown, connected, ready, playing, goal
abbrev pub is_client_status : ℕ → Bool
is_client_status status =
    (status == 0) || (status == 5) || (status == 10) || (status == 20) || (status == 30)

-- unspecified, no priority, avoid, priority
abbrev pub is_hint_status : ℕ → Bool
is_hint_status status = (status == 0) || (status == 10) || (status == 20) || (status == 30)
