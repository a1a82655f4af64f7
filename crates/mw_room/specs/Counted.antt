-- How many bytes messages have.
use Rattle.std.specs.Prelude.{ℕ, List, min}
use Rattle.mw_protocol.specs.Rooms.{bytes_in}

-- counted up to the most that are kept
abbrev pub bytes_kept : List (List ℕ) → ℕ
bytes_kept texts = min (bytes_in texts) 16777216
