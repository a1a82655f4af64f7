-- Hints: who gets which, and how they are told.
use Rattle.std.specs.Prelude.{ℕ, ℤ, ◌==◌, ◌&&◌, ◌||◌, ◌++◌, ◌∷◌, [], List, Bool, true, false, not, Option, Some, None, nat_lt, is_some, bytes_eq, if◌then◌else◌}
use Rattle.std.specs.Ordering.{int_eq}
use Rattle.mw_model.specs.Seed.{Seed, Slot, Game, NamedId, Held, slot_of, held_at, is_owner}
use Rattle.mw_protocol.specs.Checks.{Check, CheckedAt}
use Rattle.mw_protocol.specs.HintList.{hint_at}
use Rattle.mw_protocol.specs.Locations.{known_checks}
use Rattle.mw_protocol.specs.Records.{Hint}
use Rattle.mw_protocol.specs.Standing.{cost}

-- ---- names

abbrev pub id_named : List ℕ → List NamedId → Option ℤ
id_named name [] = None
id_named name (n ∷ ns) = if bytes_eq n.name name then Some n.id else id_named name ns

abbrev pub game_named : List ℕ → List Game → Option Game
game_named name [] = None
game_named name (g ∷ gs) = if bytes_eq g.name name then Some g else game_named name gs

abbrev pub game_played : List Game → Option Slot → Option Game
game_played games None = None
game_played games (Some slot) = game_named slot.game games

abbrev pub item_in : List ℕ → Option Game → Option ℤ
item_in name None = None
item_in name (Some g) = id_named name g.item_name_to_id

abbrev pub location_in : List ℕ → Option Game → Option ℤ
location_in name None = None
location_in name (Some g) = id_named name g.location_name_to_id

-- the item, or the location, of this exact name in the slot's game
abbrev pub item_named : Seed → ℕ → List ℕ → Option ℤ
item_named seed slot name = item_in name (game_played seed.games (slot_of seed slot))

abbrev pub location_named : Seed → ℕ → List ℕ → Option ℤ
location_named seed slot name = location_in name (game_played seed.games (slot_of seed slot))

-- ---- a hint that is bought

pub data Wanted : Type 0 where
  -- where the slot's item of this name is
  item_wanted : List ℕ → Wanted
  -- what stands at the slot's location of this name
  location_wanted : List ℕ → Wanted

pub data Answer : Type 0 where
  bought : Hint → Answer
  no_such_name : Answer
  nothing_to_hint : Answer
  -- what a hint costs, and the points that are left
  too_dear : ℕ → ℕ → Answer

-- it isn't checked and has no hint
abbrev pub is_open : CheckedAt → List Hint → ℕ → Held → Bool
is_open is_found hs team h =
    not (is_found team h.slot h.location) && not (is_some (hint_at hs team h.slot h.location))

abbrev pub first_where : (Held → Bool) → List Held → Option Held
first_where p [] = None
first_where p (h ∷ hs) = if p h then Some h else first_where p hs

abbrev pub first_if : (Held → Bool) → Option Held → Option Held
first_if p None = None
first_if p (Some h) = if p h then Some h else None

-- a trap is to be avoided, and all else a priority
abbrev pub bought_status : ℕ → ℕ
bought_status flags = if flags == 4 then 20 else 30

abbrev pub bought_hint : ℕ → ℕ → Held → Hint
bought_hint team slot h =
    record {
      team = team;
      finder = h.slot;
      location = h.location;
      bought = true;
      buyer = slot;
      status = bought_status h.flags;
    }

-- the hint that is there to buy, where the points reach
abbrev pub paid : ℕ → ℕ → ℕ → ℕ → Option Held → Answer
paid team slot price left None = nothing_to_hint
paid team slot price left (Some h) =
    if nat_lt left price then too_dear price left else bought (bought_hint team slot h)

-- the first location by finder, then id, that holds the slot's item
abbrev pub item_bought : Seed → CheckedAt → ℕ → List Hint → ℕ → ℕ → Option ℤ → Answer
item_bought seed is_found left hs team slot None = no_such_name
item_bought seed is_found left hs team slot (Some id) =
    paid team slot (cost seed slot) left
    (first_where (λ h. is_owner seed h.receiver slot && int_eq h.item id
    && is_open is_found hs team h) seed.locations)

abbrev pub location_bought : Seed → CheckedAt → ℕ → List Hint → ℕ → ℕ → Option Held → Answer
location_bought seed is_found left hs team slot None = no_such_name
location_bought seed is_found left hs team slot (Some h) =
    paid team slot (cost seed slot) left (first_if (is_open is_found hs team) (Some h))

abbrev pub held_named : Seed → ℕ → Option ℤ → Option Held
held_named seed slot None = None
held_named seed slot (Some id) = held_at seed slot id

-- what a slot of a team is answered that wants to buy a hint with the points that it has left
abbrev pub bought_for : Seed → CheckedAt → ℕ → List Hint → ℕ → ℕ → Wanted → Answer
bought_for seed is_found left hs team slot (item_wanted name) =
    item_bought seed is_found left hs team slot (item_named seed slot name)
bought_for seed is_found left hs team slot (location_wanted name) =
    location_bought seed is_found left hs team slot
    (held_named seed slot (location_named seed slot name))

-- ---- hints that are scouted, and their statuses

abbrev pub scouted_hint : ℕ → ℕ → Check → Hint
scouted_hint team slot c =
    record {
      team = team;
      finder = slot;
      location = c.location;
      bought = false;
      buyer = slot;
      status = 0;
    }

-- one for each known location among the numbers that isn't checked and has no hint, once, in order
abbrev pub scouted_among : CheckedAt → List Hint → ℕ → ℕ → List Check → List Hint
scouted_among is_found hs team slot [] = []
scouted_among is_found hs team slot (c ∷ cs) =
    if is_found team slot c.location || is_some (hint_at hs team slot c.location)
    then scouted_among is_found hs team slot cs
    else scouted_hint team slot c ∷ scouted_among is_found hs team slot cs

abbrev pub scouted_for : Seed → CheckedAt → List Hint → ℕ → ℕ → List ℤ → List Hint
scouted_for seed is_found hs team slot numbers =
    scouted_among is_found hs team slot (known_checks seed team slot numbers)

abbrev pub receives : Seed → ℕ → Option Held → Bool
receives seed slot None = false
receives seed slot (Some h) = is_owner seed h.receiver slot

abbrev pub differs : Option Hint → ℕ → Bool
differs None s = false
differs (Some h) s = not (h.status == s)

-- whether a slot of a team gives the hint of a finder's location this status: it receives what stands there, which isn't found, and the status is another
abbrev pub marks : Seed → CheckedAt → List Hint → ℕ → ℕ → ℕ → ℤ → ℕ → Bool
marks seed is_found hs team slot finder location s =
    receives seed slot (held_at seed finder location) && not (is_found team finder location)
    && differs (hint_at hs team finder location) s

-- ---- hints as they are told

-- who receives what from whose location, and whether it is found
pub record ToldHint : Type 0 where
  pub receiving_player : ℕ
  pub finding_player : ℕ
  pub location : ℤ
  pub item : ℤ
  pub found : Bool
  pub item_flags : ℕ
  pub status : ℕ

-- the status of what is found is 40
abbrev pub shown_status : Bool → ℕ → ℕ
shown_status found s = if found then 40 else s

abbrev pub told_hint : CheckedAt → Hint → Option Held → List ToldHint
told_hint is_found h None = []
told_hint is_found h (Some at) = record {
  receiving_player = at.receiver;
  finding_player = h.finder;
  location = h.location;
  item = at.item;
  found = is_found h.team h.finder h.location;
  item_flags = at.flags;
  status = shown_status (is_found h.team h.finder h.location) h.status;
} ∷ []

-- the hints of a team whose finder is the slot, or whose receiver has it among its owners, in the order in which they were made
abbrev pub told_hints : Seed → CheckedAt → ℕ → ℕ → List Hint → List ToldHint
told_hints seed is_found team slot [] = []
told_hints seed is_found team slot (h ∷ hs) =
    (if (h.team == team)
    && ((h.finder == slot) || receives seed slot (held_at seed h.finder h.location))
    then told_hint is_found h (held_at seed h.finder h.location) else [])
    ++ told_hints seed is_found team slot hs
