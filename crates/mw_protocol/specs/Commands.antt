-- What the commands of a text do: their records, and the text that answers them.
use Rattle.std.specs.Prelude.{ℕ, ℤ, ◌+◌, ◌/◌, ◌%◌, ◌==◌, ◌&&◌, ◌||◌, ◌++◌, ◌∷◌, [], List, Bool, false, not, Option, Some, None, filter, map, length, decimal, codes, if◌then◌else◌}
use Rattle.std.specs.Ordering.{int_eq}
use Rattle.mw_model.specs.Seed.{Seed, Slot, Game, NamedId, Held, slot_of, is_owner}
use Rattle.mw_protocol.specs.Asked.{asked_by, locations_of}
use Rattle.mw_protocol.specs.Checks.{CheckedAt, unseen}
use Rattle.mw_protocol.specs.Connecting.{Member}
use Rattle.mw_protocol.specs.Hints.{game_played}
use Rattle.mw_protocol.specs.Players.{name_in}
use Rattle.mw_protocol.specs.Records.{Record, release, collect, status}
use Rattle.mw_protocol.specs.Standing.{Standing, steps, status_in}

-- ---- release and collect

-- a permission's bit 1 is for everybody, bit 2 for who reached the goal
abbrev pub is_allowed : ℕ → ℕ → Bool
is_allowed permission s = (permission % 2 == 1) || ((permission / 2 % 2 == 1) && (s == 30))

-- bit 4 is for the goal itself
abbrev pub is_automatic : ℕ → Bool
is_automatic permission = permission / 4 % 2 == 1

-- a record, where it asks for a check that isn't there yet
abbrev pub if_some : {A : Type 0} → List A → Record → List Record
if_some [] r = []
if_some (c ∷ cs) r = r ∷ []

abbrev pub where_new : Seed → Standing → Record → List Record
where_new seed now r = if_some (unseen now.checked (asked_by seed r)) r

abbrev pub at_goal_released : Seed → Standing → ℕ → ℕ → List Record
at_goal_released seed now team slot =
    if is_automatic seed.server.release then where_new seed now (release team slot) else []

-- at the goal the slot's items are collected first, and then its world's released
abbrev pub at_goal_from : Seed → Standing → ℕ → ℕ → List Record → List Record
at_goal_from seed now team slot collected =
    collected ++ at_goal_released seed (steps seed now collected) team slot

abbrev pub at_goal : Seed → Standing → ℕ → ℕ → List Record
at_goal seed now team slot =
    at_goal_from seed now team slot
    (if is_automatic seed.server.collect then where_new seed now (collect team slot) else [])

-- the records of a new status of a slot that has this one: none once the goal is reached, or where it is the same
abbrev pub status_after : Seed → Standing → Member → ℕ → ℕ → List Record
status_after seed now m before s =
    if (before == 30) || (before == s) then []
    else status m.team m.slot s ∷ (if s == 30 then at_goal seed now m.team m.slot else [])

abbrev pub status_records : Seed → Standing → Member → ℕ → List Record
status_records seed now m s = status_after seed now m (status_in now m.team m.slot) s

-- ---- texts of commands

abbrev pub joined_by : List ℕ → List (List ℕ) → List ℕ
joined_by between [] = []
joined_by between (t ∷ []) = t
joined_by between (t ∷ u ∷ ts) = t ++ between ++ joined_by between (u ∷ ts)

abbrev pub listed : List (List ℕ) → List ℕ
listed names = joined_by (codes ", ") names

-- how many, of what, and each
abbrev pub counted : List ℕ → List (List ℕ) → List ℕ
counted word names = decimal (length names) ++ word ++ listed names

abbrev pub name_among : ℤ → List NamedId → List ℕ
name_among id [] = []
name_among id (n ∷ ns) = if int_eq n.id id then n.name else name_among id ns

abbrev pub location_name : Option Game → ℤ → List ℕ
location_name None id = []
location_name (Some g) id = name_among id g.location_name_to_id

abbrev pub item_name : Option Game → ℤ → List ℕ
item_name None id = []
item_name (Some g) id = name_among id g.item_name_to_id

abbrev pub game_of : Seed → ℕ → Option Game
game_of seed slot = game_played seed.games (slot_of seed slot)

-- the slot's missing locations, and its checked ones, by id
abbrev pub missing_text : Seed → CheckedAt → ℕ → ℕ → List ℕ
missing_text seed is_found team slot =
    counted (codes " missing: ")
    (map (location_name (game_of seed slot))
    (filter (λ l. not (is_found team slot l)) (locations_of seed slot)))

abbrev pub checked_text : Seed → CheckedAt → ℕ → ℕ → List ℕ
checked_text seed is_found team slot =
    counted (codes " checked: ")
    (map (location_name (game_of seed slot))
    (filter (λ l. is_found team slot l) (locations_of seed slot)))

-- the slot's items at unchecked locations, by finder, then id
abbrev pub remaining_items : Seed → CheckedAt → ℕ → ℕ → List Held → List ℤ
remaining_items seed is_found team slot [] = []
remaining_items seed is_found team slot (h ∷ hs) =
    if is_owner seed h.receiver slot && not (is_found team h.slot h.location)
    then h.item ∷ remaining_items seed is_found team slot hs
    else remaining_items seed is_found team slot hs

abbrev pub remaining_text : Seed → CheckedAt → ℕ → ℕ → List ℕ
remaining_text seed is_found team slot =
    counted (codes " remaining: ")
    (map (item_name (game_of seed slot)) (remaining_items seed is_found team slot seed.locations))

-- those of a team that are among the members
abbrev pub plays_in : ℕ → ℕ → List Member → Bool
plays_in team slot [] = false
plays_in team slot (m ∷ ms) = ((m.team == team) && (m.slot == slot)) || plays_in team slot ms

-- the names of the team's slots that have a member, by slot, from a slot on
abbrev pub present : ℕ → ℕ → List Slot → List Member → List (List ℕ)
present team number [] members = []
present team number (s ∷ ss) members =
    (if plays_in team number members then name_in team s ∷ [] else [])
    ++ present team (number + 1) ss members

abbrev pub players_text : Seed → ℕ → List Member → List ℕ
players_text seed team members = codes "Connected: " ++ listed (present team 1 seed.slots members)

abbrev pub help_text : List ℕ
help_text =
    codes "!help !players !missing !checked !remaining !release !collect !hint !hint_location"

abbrev pub points_text : ℕ → ℕ → List ℕ
points_text left price = decimal left ++ codes " points, a hint costs " ++ decimal price
