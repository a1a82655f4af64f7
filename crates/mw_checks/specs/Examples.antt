-- Rows of Room A beside the definitions: in team 0 Ann, of slot 1, checked her location 101.
use Rattle.std.specs.Prelude.{ℕ, ℤ, pos, ◌≡◌, ◌∷◌, [], refl}
use Rattle.mw_protocol.specs.Checks.{Check}
use Rattle.mw_protocol.specs.Examples.{room_a, net_item}
use Rattle.mw_checks.specs.Fresh.{new_at, new_among}
use Rattle.mw_checks.specs.Log.{Log, given_by}

abbrev pub check : ℕ → ℕ → ℤ → Check
check team slot location = record { team = team; slot = slot; location = location }

abbrev pub log : Log
log = record { seed = room_a; checked = check 0 1 (pos 101) ∷ []; space = 1 }

-- what is checked, what is no location of its slot and what stands twice is left out
pub new_once : new_among log 0 ((1, pos 102) ∷ (1, pos 101) ∷ (2, pos 101) ∷ (1, pos 102) ∷ [])
    ≡ check 0 1 (pos 102) ∷ []
new_once = refl

-- what is checked in a team isn't in another
pub new_in_another_team : new_among log 1 ((1, pos 101) ∷ []) ≡ check 1 1 (pos 101) ∷ []
new_in_another_team = refl

-- the same of a client's numbers
pub new_numbers : new_at log 0 1 (pos 999 ∷ pos 102 ∷ pos 101 ∷ pos 102 ∷ [])
    ≡ check 0 1 (pos 102) ∷ []
new_numbers = refl

-- Ann's 102 gives her an own item, which mask 1 doesn't keep; Bob's 201 gives her one of another world
pub given_under_masks : given_by log 1 0 1 ((1, pos 102) ∷ (2, pos 201) ∷ [])
    ≡ net_item (pos 9) (pos 201) 2 2 ∷ []
given_under_masks = refl
