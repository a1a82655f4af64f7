-- The joint of the worlds' tables and the players, or the first refusal.
use Rattle.std.specs.Prelude.{◌≡◌, ◌≢◌, ℕ, ◌+◌, ◌++◌, List, [], ◌∷◌, Bool, false, nat_le, Option, Some, None, Result, Ok, Err, bytes_eq, length, map, sum_by, if◌then◌else◌}
use Rattle.std.specs.List.{list_all, list_any}
use Rattle.mw_multi.specs.World.{World, PoolEntry, place_count}
use Rattle.mw_multi.specs.WorldKept.{item_name, entrance_name, location_name}
use Rattle.mw_multi.specs.Players.{StartEntry, Player, ItemLink, Players}
use Rattle.mw_multi.specs.Files.{world_files, world_named}
use Rattle.mw_multi.specs.Labels.{item_labels, location_labels, index_of, flags_of}
use Rattle.mw_multi.specs.Joint.{Slot, Joint, slot_at, world_of, first_slot, place_total}
use Rattle.mw_multi.specs.Links.{Sharing, slots_after, links_among}
use Rattle.mw_multi.specs.declared.refusal.OptionName.{OptionName}
use Rattle.mw_multi.specs.declared.refusal.OptionName.TheVariants.{LocalItems, NonLocalItems, ExcludeLocations, PriorityLocations, StartInventory}
use Rattle.mw_multi.specs.declared.refusal.JointRefusal.{JointRefusal}
use Rattle.mw_multi.specs.declared.refusal.JointRefusal.TheVariants.{GameTwice, UnknownName, LinkGame, LinkName, TooManyPlaces, TooMuchText, Memory}

infixl 10 ◌>>=◌
abbrev pub ◌>>=◌ : {A B : Type 0} → Result A JointRefusal → (A → Result B JointRefusal)
    → Result B JointRefusal
(Ok x) >>= f = f x
(Err e) >>= f = Err e

-- nothing to refuse, or the first refusal
abbrev pub Check : Type 0
Check = Result (Unit {0}) JointRefusal

-- the answer, seen by view, is this one, unless memory ran out
abbrev pub GivesBy : {X A : Type 0} → (X → A) → Result X JointRefusal → Result A JointRefusal
    → Type 0
GivesBy view (Ok x) answer = answer ≡ Ok (view x)
GivesBy view (Err e) answer = e ≢ Memory → answer ≡ Err e

abbrev pub Gives : {A : Type 0} → Result A JointRefusal → Result A JointRefusal → Type 0
Gives result answer = GivesBy (λ x. x) result answer

-- ---- games

-- some of the worlds are of the game
abbrev pub has_game : List World → List ℕ → Bool
has_game worlds game = list_any (λ w. bytes_eq w.game game) worlds

-- the game of each world differs from those of the worlds before it; the first of these stands at this index
abbrev pub games_differ : List World → ℕ → List World → Check
games_differ before n [] = Ok tt
games_differ before n (w ∷ ws) =
    if has_game before w.game then Err (GameTwice n) else games_differ (before ++ w ∷ []) (n + 1) ws

-- ---- options

-- the index of a name that has to be known
abbrev pub known : ℕ → OptionName → ℕ → Option ℕ → Result ℕ JointRefusal
known slot option place None = Err (UnknownName slot option place)
known slot option place (Some index) = Ok index

-- the index of the label that has the name
unfoldable pub label_named : ℕ → OptionName → List (Option (List ℕ)) → ℕ → List ℕ
    → Result ℕ JointRefusal
label_named slot option labels place name = known slot option place (index_of labels name)

-- each of the names is one of the labels; the first of them stands at this place
abbrev pub all_known : ℕ → OptionName → List (Option (List ℕ)) → ℕ → List (List ℕ) → Check
all_known slot option labels place [] = Ok tt
all_known slot option labels place (n ∷ ns) = do
  index ← label_named slot option labels place n
  all_known slot option labels (place + 1) ns

-- an option that lists names: for each label, whether it is listed
unfoldable pub flags_option : ℕ → OptionName → List (Option (List ℕ)) → List (List ℕ)
    → Result (List Bool) JointRefusal
flags_option slot option labels names = do
  judged ← all_known slot option labels 0 names
  Ok (flags_of labels names)

-- so many of an item to begin with
unfoldable pub start_item : ℕ → List (Option (List ℕ)) → ℕ → StartEntry
    → Result PoolEntry JointRefusal
start_item slot labels place s = do
  index ← label_named slot StartInventory labels place s.name
  Ok record { item = index; count = s.count }

-- the items to begin with, the first of which stands at this place
abbrev pub start_option : ℕ → List (Option (List ℕ)) → ℕ → List StartEntry
    → Result (List PoolEntry) JointRefusal
start_option slot labels place [] = Ok []
start_option slot labels place (s ∷ ss) = do
  first ← start_item slot labels place s
  others ← start_option slot labels (place + 1) ss
  Ok (first ∷ others)

-- ---- slots

-- the slot of this number, for a player whose world has these tables; its places and items are numbered from these on
unfoldable pub slot_of : ℕ → Player → World → ℕ → ℕ → Result Slot JointRefusal
slot_of slot p w place item = do
  local_items ← flags_option slot LocalItems (item_labels w.items) p.options.local_items
  non_local_items ← flags_option slot NonLocalItems (item_labels w.items) p.options.non_local_items
  exclude_locations ← flags_option slot ExcludeLocations (location_labels w.locations)
      p.options.exclude_locations
  priority_locations ← flags_option slot PriorityLocations (location_labels w.locations)
      p.options.priority_locations
  start ← start_option slot (item_labels w.items) 0 p.options.start_inventory
  Ok record {
    names = p.names;
    world = w;
    first_place = place;
    first_item = item;
    local_items = local_items;
    non_local_items = non_local_items;
    exclude_locations = exclude_locations;
    priority_locations = priority_locations;
    start = start;
    pool = w.pool;
    access = p.options.accessibility;
  }

-- the slots of these players, the first of which has this number, and its first place and first item these
abbrev pub slots_from : (List ℕ → World) → ℕ → ℕ → ℕ → List Player → Result (List Slot) JointRefusal
slots_from named slot place item [] = Ok []
slots_from named slot place item (p ∷ ps) = do
  first ← slot_of slot p (named p.world) place item
  others ← slots_from named (slot + 1) (place + place_count (named p.world))
      (item + length (named p.world).items) ps
  Ok (first ∷ others)

-- ---- links

-- the slot plays the game
abbrev pub plays : List ℕ → Option Slot → Bool
plays game None = false
plays game (Some s) = bytes_eq s.world.game game

abbrev pub member_plays : List Slot → List ℕ → ℕ → Bool
member_plays slots game number = plays game (slot_at slots number)

-- the slots of these numbers all play the game of the first
abbrev pub play_one_game : List Slot → List ℕ → Bool
play_one_game slots members =
    list_all (member_plays slots (world_of (first_slot slots members)).game) members

-- the members of each link all play one game; the first of these has this index
abbrev pub links_play : List Slot → ℕ → List ItemLink → Check
links_play slots link [] = Ok tt
links_play slots link (l ∷ ls) =
    if play_one_game slots l.members then links_play slots (link + 1) ls else Err (LinkGame link)

-- the number of a shared item, which has to be known
abbrev pub shared_known : ℕ → ℕ → Option ℕ → Result ℕ JointRefusal
shared_known link place None = Err (LinkName link place)
shared_known link place (Some index) = Ok index

unfoldable pub shared_item : ℕ → List (Option (List ℕ)) → ℕ → List ℕ → Result ℕ JointRefusal
shared_item link labels place name = shared_known link place (index_of labels name)

-- the first of these names stands at this place
abbrev pub shared_items : ℕ → List (Option (List ℕ)) → ℕ → List (List ℕ)
    → Result (List ℕ) JointRefusal
shared_items link labels place [] = Ok []
shared_items link labels place (n ∷ ns) = do
  first ← shared_item link labels place n
  others ← shared_items link labels (place + 1) ns
  Ok (first ∷ others)

-- the link of this index, whose items are those of its members' game
unfoldable pub sharing_of : List Slot → ℕ → ItemLink → Result Sharing JointRefusal
sharing_of slots link l = do
  items ← shared_items link (item_labels (world_of (first_slot slots l.members)).items) 0 l.items
  Ok record { name = l.name; members = l.members; items = items }

-- the first of these links has this index
abbrev pub sharings_from : List Slot → ℕ → List ItemLink → Result (List Sharing) JointRefusal
sharings_from slots link [] = Ok []
sharings_from slots link (l ∷ ls) = do
  first ← sharing_of slots link l
  others ← sharings_from slots (link + 1) ls
  Ok (first ∷ others)

-- ---- limits

-- at most 200,000 places, counted for each slot
abbrev pub few_places : ℕ → Check
few_places have = if nat_le have 200000 then Ok tt else Err (TooManyPlaces have)

-- the names that a world's tables hold
abbrev pub world_names : World → List (List ℕ)
world_names w =
    w.game ∷ (w.regions
    ++ (map item_name w.items ++ (map entrance_name w.entrances ++ map location_name w.locations)))

-- a name's bytes, and 24 more
abbrev pub name_text : List ℕ → ℕ
name_text name = length name + 24

abbrev pub world_text : World → ℕ
world_text w = sum_by name_text (world_names w)

-- at most 16,777,216, each file counted once
abbrev pub few_text : ℕ → Check
few_text have = if nat_le have 16777216 then Ok tt else Err (TooMuchText have)

-- ---- the whole

-- first no game twice, then the slots in order, then the links' games, then their items, then the limits on places and on
-- text
unfoldable pub joint_of : List World → Players → Result Joint JointRefusal
joint_of worlds players = do
  games ← games_differ [] 0 worlds
  slots ← slots_from (world_named (world_files players) worlds) 1 0 0 players.players
  games_shared ← links_play slots 0 players.links
  sharings ← sharings_from slots 0 players.links
  places ← few_places (place_total slots)
  text ← few_text (sum_by world_text worlds)
  Ok record {
    teams = players.teams;
    room = players.room;
    slots = slots_after slots sharings;
    links = links_among slots sharings;
  }
