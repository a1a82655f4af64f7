-- The hints that a journal makes.
use Rattle.std.specs.Prelude.{ℕ, ℤ, ◌==◌, ◌&&◌, ◌++◌, ◌∷◌, [], List, Bool, Option, Some, None, filter, is_some, if◌then◌else◌}
use Rattle.std.specs.Ordering.{int_eq}
use Rattle.mw_protocol.specs.Records.{Record, Hint, checks, release, collect, status, hint, hint_status, store}

-- it is the hint of a finder's location in a team
abbrev pub is_at : ℕ → ℕ → ℤ → Hint → Bool
is_at team finder location h =
    (h.team == team) && (h.finder == finder) && int_eq h.location location

-- the hint of a finder's location in a team, if there is one
abbrev pub hint_at : List Hint → ℕ → ℕ → ℤ → Option Hint
hint_at [] team finder location = None
hint_at (h ∷ hs) team finder location =
    if is_at team finder location h then Some h else hint_at hs team finder location

abbrev pub with_status : ℕ → Hint → Hint
with_status s h =
    record {
      team = h.team;
      finder = h.finder;
      location = h.location;
      bought = h.bought;
      buyer = h.buyer;
      status = s;
    }

-- the hint of a finder's location in a team has another status, where there is one
abbrev pub marked : List Hint → ℕ → ℕ → ℤ → ℕ → List Hint
marked [] team finder location s = []
marked (h ∷ hs) team finder location s =
    if is_at team finder location h then with_status s h ∷ hs
    else h ∷ marked hs team finder location s

-- a location has one hint at most
abbrev pub made : List Hint → Hint → List Hint
made hs h = if is_some (hint_at hs h.team h.finder h.location) then hs else hs ++ h ∷ []

abbrev pub hinted : List Hint → Record → List Hint
hinted hs (checks team slot locations) = hs
hinted hs (release team slot) = hs
hinted hs (collect team slot) = hs
hinted hs (status team slot s) = hs
hinted hs (hint h) = made hs h
hinted hs (hint_status team finder location s) = marked hs team finder location s
hinted hs (store key value) = hs

abbrev pub hinted_all : List Hint → List Record → List Hint
hinted_all hs [] = hs
hinted_all hs (r ∷ rs) = hinted_all (hinted hs r) rs

-- Hints: those of a journal, in the order in which they were made
abbrev pub hints : List Record → List Hint
hints journal = hinted_all [] journal

-- the hints that a slot of a team paid for
abbrev pub bought_by : List Hint → ℕ → ℕ → List Hint
bought_by hs team slot = filter (λ h. h.bought && (h.team == team) && (h.buyer == slot)) hs
