-- The names of a world file that has its shape: resolved, or the first one that stands twice, isn't there or doesn't fit.
use Rattle.std.specs.Prelude.{ℕ, ℤ, ◌+◌, ◌&&◌, List, [], ◌∷◌, Bool, Option, Some, None, Result, Ok, codes, map}
use Rattle.mw_json.specs.Grammar.{Breach, ◌>>=◌, under}
use Rattle.mw_json.specs.Parts.{there}
use Rattle.mw_json.specs.declared.refusal.Kind.TheVariants.{DuplicateName, DuplicateId, UnknownName}
use Rattle.mw_json.specs.declared.refusal.Step.TheVariants.{Name, Index}
use Rattle.mw_rules.specs.Rule.{Rule}
use Rattle.mw_multi.specs.World.{Item, Entrance, Location, PoolEntry}
use Rattle.mw_multi.specs.WorldKept.{item_name, item_id, is_event, has_id, is_filler}
use Rattle.mw_tables.specs.Names.{Check, demand, stands_first, id_stands_first, names_once}
use Rattle.mw_tables.specs.Raw.{RawEntrance, RawLocation, RawEntry, RawWorld}
use Rattle.mw_tables.specs.RuleNames.{region_named, item_such, raw_location_name, rule_named}
use Rattle.mw_tables.specs.declared.named_rows.NamedRows.{NamedRows}

-- ---- names and ids that stand at no earlier place

abbrev pub region_once : RawWorld → ℕ → List ℕ → Check
region_once w i name = demand DuplicateName (stands_first w.regions i name)

abbrev pub item_name_once : RawWorld → ℕ → Item → Check
item_name_once w i x = demand DuplicateName (stands_first (map item_name w.items) i x.name)

abbrev pub item_id_once : RawWorld → ℕ → Item → Check
item_id_once w i x = demand DuplicateId (id_stands_first (map item_id w.items) i x.id)

abbrev pub raw_entrance_name : RawEntrance → List ℕ
raw_entrance_name e = e.name

abbrev pub entrance_once : RawWorld → ℕ → RawEntrance → Check
entrance_once w i e =
    demand DuplicateName (stands_first (map raw_entrance_name w.entrances) i e.name)

abbrev pub raw_location_id : RawLocation → Option ℤ
raw_location_id l = l.id

abbrev pub location_name_once : RawWorld → ℕ → RawLocation → Check
location_name_once w i l =
    demand DuplicateName (stands_first (map raw_location_name w.locations) i l.name)

abbrev pub location_id_once : RawWorld → ℕ → RawLocation → Check
location_id_once w i l =
    demand DuplicateId (id_stands_first (map raw_location_id w.locations) i l.id)

-- ---- items

unfoldable pub item_named : RawWorld → ℕ → Item → Check
item_named w i x = do
  name ← under (Name (codes "name")) (item_name_once w i x)
  under (Name (codes "id")) (item_id_once w i x)

-- each of these items, the first of which stands at this index
abbrev pub items_named : RawWorld → ℕ → List Item → Check
items_named w i [] = Ok tt
items_named w i (x ∷ xs) = do
  first ← under (Index i) (item_named w i x)
  items_named w (i + 1) xs

-- ---- entrances

unfoldable pub entrance_named : RawWorld → ℕ → RawEntrance → Result Entrance Breach
entrance_named w i e = do
  name ← under (Name (codes "name")) (entrance_once w i e)
  from ← under (Name (codes "from")) (region_named w e.from)
  to ← under (Name (codes "to")) (region_named w e.to)
  rule ← under (Name (codes "rule")) (rule_named w e.rule)
  Ok record { name = e.name; from = from; to = to; rule = rule }

abbrev pub entrances_named : RawWorld → ℕ → List RawEntrance → Result (List Entrance) Breach
entrances_named w i [] = Ok []
entrances_named w i (e ∷ es) = do
  first ← under (Index i) (entrance_named w i e)
  others ← entrances_named w (i + 1) es
  Ok (first ∷ others)

-- ---- locations

-- an item without id, where there is an event
abbrev pub event_named : RawWorld → Option (List ℕ) → Result (Option ℕ) Breach
event_named w (Some name) = there (item_such is_event UnknownName w name)
event_named w None = Ok None

-- its name and its id, if it has one, stand at no earlier place
unfoldable pub location_once : RawWorld → ℕ → RawLocation → Check
location_once w i l = do
  name ← under (Name (codes "name")) (location_name_once w i l)
  under (Name (codes "id")) (location_id_once w i l)

unfoldable pub location_named : RawWorld → ℕ → RawLocation → Result Location Breach
location_named w i l = do
  once ← location_once w i l
  region ← under (Name (codes "region")) (region_named w l.region)
  rule ← under (Name (codes "rule")) (rule_named w l.rule)
  event ← under (Name (codes "event")) (event_named w l.event)
  Ok record { name = l.name; id = l.id; region = region; kind = l.kind; rule = rule; event = event }

abbrev pub locations_named : RawWorld → ℕ → List RawLocation → Result (List Location) Breach
locations_named w i [] = Ok []
locations_named w i (l ∷ ls) = do
  first ← under (Index i) (location_named w i l)
  others ← locations_named w (i + 1) ls
  Ok (first ∷ others)

-- ---- the pool and the filler

-- an item with an id
unfoldable pub entry_named : RawWorld → RawEntry → Result PoolEntry Breach
entry_named w p = do
  i ← under (Name (codes "item")) (item_such has_id UnknownName w p.item)
  Ok record { item = i; count = p.count }

abbrev pub entries_named : RawWorld → ℕ → List RawEntry → Result (List PoolEntry) Breach
entries_named w i [] = Ok []
entries_named w i (p ∷ ps) = do
  first ← under (Index i) (entry_named w p)
  others ← entries_named w (i + 1) ps
  Ok (first ∷ others)

-- with an id, and of class filler
abbrev pub may_fill : Option Item → Bool
may_fill o = has_id o && is_filler o

-- ---- the whole

-- what the names of a world stand for
pub record NamedWorld : Type 0 where
  pub origin : ℕ
  pub entrances : List Entrance
  pub locations : List Location
  pub pool : List PoolEntry
  pub filler : ℕ
  pub goal : Rule

-- where a player begins, where no region and no item stands twice
unfoldable pub start_named : RawWorld → Result ℕ Breach
start_named w = do
  origin ← under (Name (codes "origin")) (region_named w w.origin)
  regions ← under (Name (codes "regions")) (names_once w.regions 0 w.regions)
  items ← under (Name (codes "items")) (items_named w 0 w.items)
  Ok origin

-- the entrances, the locations and the pool
unfoldable pub rows_named : RawWorld → Result NamedRows Breach
rows_named w = do
  entrances ← under (Name (codes "entrances")) (entrances_named w 0 w.entrances)
  locations ← under (Name (codes "locations")) (locations_named w 0 w.locations)
  pool ← under (Name (codes "pool")) (entries_named w 0 w.pool)
  Ok record { entrances = entrances; locations = locations; pool = pool }

-- these, and then the filler and the goal
unfoldable pub world_names : RawWorld → Result NamedWorld Breach
world_names w = do
  origin ← start_named w
  rows ← rows_named w
  filler ← under (Name (codes "filler")) (item_such may_fill UnknownName w w.filler)
  goal ← under (Name (codes "goal")) (rule_named w w.goal)
  Ok record {
    origin = origin;
    entrances = rows.entrances;
    locations = rows.locations;
    pool = rows.pool;
    filler = filler;
    goal = goal;
  }
