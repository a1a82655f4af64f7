-- How many bytes messages have.
use Rattle.std.proofs.Common.{◌≡◌, ℕ, ◌+◌, List, [], ◌∷◌, ◌++◌, length, arith, min}
use Rattle.mw_protocol.specs.Rooms.{bytes_in}
use Rattle.mw_room.specs.Counted.{bytes_kept}

bytes_in-append : (texts : List (List ℕ)) (text : List ℕ) → bytes_in (texts ++ text ∷ []) ≡ bytes_in texts + length text
bytes_in-append [] text = omega arith
bytes_in-append (t ∷ ts) text = omega (arith, bytes_in-append ts text)

pub bytes_more : (texts : List (List ℕ)) (text : List ℕ) → min (bytes_kept texts + length text) 16777216 ≡ bytes_kept (texts ++ text ∷ [])
bytes_more texts text = grind (arith, bytes_in-append texts text)
