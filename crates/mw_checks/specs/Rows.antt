-- A flag for each location and team, and rows of numbers for each slot and team.
use Rattle.std.specs.Prelude.{◌≡◌, ◌≢◌, ℕ, ℤ, ◌+◌, ◌*◌, ◌/◌, ◌<◌, ◌≤◌, ◌==◌, ◌&&◌, ◌++◌, List, [], ◌∷◌, Vec, Bool, true, false, not, Option, Some, None, length, map, get_or, slice_get, option_to_list, vec_len, vec_capacity, if◌then◌else◌}
use Rattle.std.specs.declared.alloc.Global.{Global}
use Rattle.mw_model.specs.Seed.{Seed, Held, is_owner}
use Rattle.mw_protocol.specs.Checks.{Check, has_check, found_item, items_found, locations_in}
use Rattle.mw_checks.specs.Numbers.{number_of}

-- where the flag of a location's number in a team stands, and the row of a slot in a team
abbrev pub seat : ℕ → ℕ → ℕ
seat n team = 8 * n + team

-- whether a location of this number, if it is one, is flagged in a team
abbrev pub flagged : List Bool → ℕ → Option ℕ → Bool
flagged done team None = false
flagged done team (Some n) = get_or done (seat n team) false

-- what stands at these numbers
abbrev pub standing : List Held → List ℕ → List Held
standing hs [] = []
standing hs (n ∷ ns) = option_to_list (slice_get hs n) ++ standing hs ns

abbrev pub one_if : Bool → ℕ
one_if b = if b then 1 else 0

-- for a location, whose it is: of each slot whether it is one of these
abbrev pub Owners : Type 0
Owners = ℕ → Bool

-- how many locations of these owners are the slot's
abbrev pub many_of : ℕ → List Owners → ℕ
many_of slot [] = 0
many_of slot (o ∷ os) = one_if (o slot) + many_of slot os

-- how many locations of these owners, which are counted from n, are the slot's and aren't flagged in the team
abbrev pub awaited : List Bool → ℕ → ℕ → ℕ → List Owners → ℕ
awaited done team slot n [] = 0
awaited done team slot n (o ∷ os) =
    one_if (o slot && not (get_or done (seat n team) false)) + awaited done team slot (n + 1) os

-- those who receive what stands at a location
abbrev pub receivers_of : Seed → Held → Owners
receivers_of seed h slot = is_owner seed h.receiver slot

-- who finds it
abbrev pub finder_of : Held → Owners
finder_of h slot = h.slot == slot

abbrev pub location_of : Held → ℤ
location_of h = h.location

-- all are below this number
abbrev pub AllBelow : ℕ → List ℕ → Type 0
AllBelow many [] = Unit {0}
AllBelow many (n ∷ ns) = (n < many) × AllBelow many ns

-- there is a row of numbers for each slot and team, with memory for all that may still come
pub record Fit (owners : List Owners) (done : List Bool) (rows : List (Vec ℕ Global)) : Type 0 where
  pub many : length rows ≡ 8200
  pub room : (team slot : ℕ) (d : Vec ℕ Global) → team < 8 → slot ≤ 1024
      → vec_len (get_or rows (seat slot team) d) + awaited done team slot 0 owners
      ≤ vec_capacity (get_or rows (seat slot team) d)
  pub within : (team slot : ℕ) (d : Vec ℕ Global) → team < 8 → slot ≤ 1024
      → AllBelow (length owners) (get_or rows (seat slot team) d).items

-- for each slot it is counted how many locations of these owners are its
abbrev pub Counts : List Owners → List ℕ → Type 0
Counts owners counts = (slot : ℕ) → slot ≤ 1024 → get_or counts slot 0 ≡ many_of slot owners

-- there is a count of each slot's locations
pub record Sized (hs : List Held) (sizes : List ℕ) : Type 0 where
  pub many : length sizes ≡ 1025
  pub counts : Counts (map finder_of hs) sizes

-- the rows are empty, each with memory for as many as are counted for its slot
pub record Empty (counts : List ℕ) (rows : List (Vec ℕ Global)) : Type 0 where
  pub many : length rows ≡ 8200
  pub items : (i : ℕ) (d : Vec ℕ Global) → i < 8200 → (get_or rows i d).items ≡ []
  pub len : (i : ℕ) (d : Vec ℕ Global) → i < 8200 → vec_len (get_or rows i d) ≡ 0
  pub room : (i : ℕ) (d : Vec ℕ Global) → i < 8200
      → get_or counts (i / 8) 0 ≤ vec_capacity (get_or rows i d)

-- a row is there and has memory for one number more
pub record HasPlace (rows : List (Vec ℕ Global)) (at : ℕ) : Type 0 where
  pub within : at < length rows
  pub room : (d : Vec ℕ Global) → vec_len (get_or rows at d) < vec_capacity (get_or rows at d)

-- a number was put at the end of one row
pub record Put (old new : List (Vec ℕ Global)) (at n : ℕ) : Type 0 where
  pub many : length new ≡ length old
  pub items : (d : Vec ℕ Global) → (get_or new at d).items ≡ (get_or old at d).items ++ n ∷ []
  pub len : (d : Vec ℕ Global) → vec_len (get_or new at d) ≡ vec_len (get_or old at d) + 1
  pub space : (d : Vec ℕ Global) → vec_capacity (get_or old at d) ≤ vec_capacity (get_or new at d)
  pub others : (i : ℕ) (d : Vec ℕ Global) → i ≢ at → get_or new i d ≡ get_or old i d

-- in a team a number was put at the end of the row of each of these owners
pub record PutFor (owners : Owners) (team n : ℕ) (old new : List (Vec ℕ Global)) : Type 0 where
  pub many : length new ≡ length old
  pub items : (slot : ℕ) (d : Vec ℕ Global) → slot ≤ 1024
      → (get_or new (seat slot team) d).items
      ≡ (get_or old (seat slot team) d).items ++ (if owners slot then n ∷ [] else [])
  pub len : (slot : ℕ) (d : Vec ℕ Global) → slot ≤ 1024
      → vec_len (get_or new (seat slot team) d)
      ≡ vec_len (get_or old (seat slot team) d) + one_if (owners slot)
  pub space : (slot : ℕ) (d : Vec ℕ Global) → slot ≤ 1024
      → vec_capacity (get_or old (seat slot team) d) ≤ vec_capacity (get_or new (seat slot team) d)
  pub others : (other slot : ℕ) (d : Vec ℕ Global) → other < 8 → other ≢ team
      → get_or new (seat slot other) d ≡ get_or old (seat slot other) d

-- the rows of these owners in a team are there and have memory for one number more
abbrev pub HavePlaces : Owners → ℕ → List (Vec ℕ Global) → Type 0
HavePlaces owners team rows =
    (slot : ℕ) → slot ≤ 1024 → owners slot ≡ true → HasPlace rows (seat slot team)

-- what stands at the numbers of the row of each slot and team, as f shows it, is what is wanted there
abbrev pub Shows : {X : Type 0} → (Held → X) → List Held → List (Vec ℕ Global) → (ℕ → ℕ → List X)
    → Type 0
Shows f hs rows wanted =
    (team slot : ℕ) (d : Vec ℕ Global) → team < 8 → slot ≤ 1024
    → map f (standing hs (get_or rows (seat slot team) d).items) ≡ wanted team slot

-- the flags tell the checks, and the rows what each slot received and which of its locations are checked
pub record Keeps (seed : Seed) (checked : List Check) (done : List Bool)
    (received found : List (Vec ℕ Global)) : Type 0 where
  pub many : length done ≡ 8 * length seed.locations
  pub flags : (team slot : ℕ) (location : ℤ) → team < 8
      → flagged done team (number_of seed slot location)
      ≡ has_check checked record { team = team; slot = slot; location = location }
  pub received_fit : Fit (map (receivers_of seed) seed.locations) done received
  pub found_fit : Fit (map finder_of seed.locations) done found
  pub received_are : Shows found_item seed.locations received
      (λ team slot. items_found seed team slot checked)
  pub found_are : Shows location_of seed.locations found
      (λ team slot. locations_in team slot checked)
  -- of each slot's locations those that are checked and those that aren't are all
  pub counted : (team slot : ℕ) → team < 8
      → length (locations_in team slot checked)
      + awaited done team slot 0 (map finder_of seed.locations)
      ≡ many_of slot (map finder_of seed.locations)
