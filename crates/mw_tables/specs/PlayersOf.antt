-- What a players file stands for: teams, a room, players and links, or the first refusal.
use Rattle.std.specs.Prelude.{ℕ, ◌+◌, nat_le, nat_lt, not, List, [], ◌∷◌, ◌++◌, Bool, true, Option, Some, None, Result, Ok, bytes_eq, codes, flat_map, length}
use Rattle.std.specs.List.{list_any}
use Rattle.mw_model.specs.Json.{Json}
use Rattle.mw_json.specs.Grammar.{Breach, ◌>>=◌, under}
use Rattle.mw_json.specs.Files.{FileOf}
use Rattle.mw_json.specs.declared.refusal.Kind.TheVariants.{DuplicateName, UnknownName, WrongOrder}
use Rattle.mw_json.specs.declared.refusal.Step.TheVariants.{Name, Index}
use Rattle.mw_multi.specs.Players.{Player, ItemLink, Players}
use Rattle.mw_multi.specs.PlayersKept.{player_names}
use Rattle.mw_tables.specs.Names.{Check, demand}
use Rattle.mw_tables.specs.PlayersShape.{players_shape_at}

-- the name is one of these
abbrev pub has_name : List (List ℕ) → List ℕ → Bool
has_name names name = list_any (bytes_eq name) names

-- each name differs from those before it; the first of these stands at this index
abbrev pub names_differ : List (List ℕ) → ℕ → List (List ℕ) → Check
names_differ before i [] = Ok tt
names_differ before i (n ∷ ns) = do
  differs ← under (Index i) (demand DuplicateName (not (has_name before n)))
  names_differ (before ++ n ∷ []) (i + 1) ns

-- the same of the names of the player at an index
abbrev pub player_named : List (List ℕ) → ℕ → List (List ℕ) → Check
player_named before i names =
    under (Index i) (under (Name (codes "names")) (names_differ before 0 names))

-- over all teams and slots
abbrev pub players_named : List (List ℕ) → ℕ → List Player → Check
players_named before i [] = Ok tt
players_named before i (p ∷ ps) = do
  first ← player_named before i p.names
  players_named (before ++ p.names) (i + 1) ps

-- ---- links

-- the number is above the one before it, where there is one
abbrev pub is_above : Option ℕ → ℕ → Bool
is_above None number = true
is_above (Some before) number = nat_lt before number

-- a slot of so many, above the member before it
unfoldable pub member_named : ℕ → Option ℕ → ℕ → Check
member_named slots before number = do
  there ← demand UnknownName (nat_le number slots)
  demand WrongOrder (is_above before number)

-- the first of these members has this index
abbrev pub members_named : ℕ → Option ℕ → ℕ → List ℕ → Check
members_named slots before i [] = Ok tt
members_named slots before i (m ∷ ms) = do
  first ← under (Index i) (member_named slots before m)
  members_named slots (Some m) (i + 1) ms

-- a link's name differs from those before it, and its members are slots in ascending order
unfoldable pub link_named : ℕ → List (List ℕ) → ItemLink → Check
link_named slots before l = do
  differs ← under (Name (codes "name")) (demand DuplicateName (not (has_name before l.name)))
  under (Name (codes "members")) (members_named slots None 0 l.members)

-- the first of these links has this index
abbrev pub links_named : ℕ → List (List ℕ) → ℕ → List ItemLink → Check
links_named slots before i [] = Ok tt
links_named slots before i (l ∷ ls) = do
  first ← under (Index i) (link_named slots before l)
  links_named slots (before ++ l.name ∷ []) (i + 1) ls

-- the names of all players
abbrev pub names_of_players : List Player → List (List ℕ)
names_of_players players = flat_map player_names players

-- ---- the whole

-- the names of the players, then the links one by one
unfoldable pub all_named : Players → Check
all_named p = do
  named ← under (Name (codes "players")) (players_named [] 0 p.players)
  under (Name (codes "links"))
      (links_named (length p.players) (names_of_players p.players) 0 p.links)

-- its shape, then its names
unfoldable pub players_at : Json → Result Players Breach
players_at j = do
  p ← players_shape_at j
  named ← all_named p
  Ok p

abbrev pub PlayersOf : List ℕ → Result Players Breach → Type 0
PlayersOf bytes outcome = FileOf players_at bytes outcome
