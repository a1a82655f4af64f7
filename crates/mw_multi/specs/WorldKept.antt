-- What a world's tables keep.
use Rattle.std.specs.Prelude.{◌≡◌, ℕ, ℤ, ◌<◌, ◌≤◌, ◌||◌, List, Bool, true, false, Some, None, Option, All, length, slice_get, map, is_none, is_some, sum_by}
use Rattle.mw_multi.specs.World.{Entrance, Location, Item, PoolEntry, World, place_count}
use Rattle.mw_multi.specs.Names.{IsName, IsId, NamesDiffer, IdsDiffer}
use Rattle.mw_multi.specs.RulesKept.{is_progression, RuleKept}
use Rattle.mw_multi.specs.declared.item.Class.{Class}
use Rattle.mw_multi.specs.declared.item.Class.TheVariants.{Progression, Useful, Filler, Trap}

-- the id, where there is one, is in its range
abbrev pub IsIdOrNone : Option ℤ → Type 0
IsIdOrNone (Some id) = IsId id
IsIdOrNone None = Unit {0}

-- ---- regions

pub record RegionsKept (regions : List (List ℕ)) : Type 0 where
  pub count : length regions ≤ 5000
  pub names : All (IsName 128) regions
  pub differ : NamesDiffer regions

-- ---- items

abbrev pub item_name : Item → List ℕ
item_name i = i.name

abbrev pub item_id : Item → Option ℤ
item_id i = i.id

-- an item without id is an event, which is of class progression
pub record ItemKept (i : Item) : Type 0 where
  pub name : IsName 128 i.name
  pub id : IsIdOrNone i.id
  pub event : (is_some i.id || is_progression i.class) ≡ true

pub record ItemsKept (items : List Item) : Type 0 where
  pub count : length items ≤ 10000
  pub each : All ItemKept items
  pub names : NamesDiffer (map item_name items)
  pub ids : IdsDiffer (map item_id items)

-- an item without id
abbrev pub is_event : Option Item → Bool
is_event (Some i) = is_none i.id
is_event None = false

-- an item with an id
abbrev pub has_id : Option Item → Bool
has_id (Some i) = is_some i.id
has_id None = false

-- ---- entrances

abbrev pub entrance_name : Entrance → List ℕ
entrance_name e = e.name

pub record EntranceKept (w : World) (e : Entrance) : Type 0 where
  pub name : IsName 128 e.name
  pub starts : e.from < length w.regions
  pub leads : e.to < length w.regions
  pub rule : RuleKept w.items (place_count w) e.rule

pub record EntrancesKept (w : World) : Type 0 where
  pub count : length w.entrances ≤ 10000
  pub each : All (EntranceKept w) w.entrances
  pub names : NamesDiffer (map entrance_name w.entrances)

-- ---- locations

abbrev pub location_name : Location → List ℕ
location_name l = l.name

abbrev pub location_id : Location → Option ℤ
location_id l = l.id

-- an event stands exactly where there is no id, and is an event of these items
abbrev pub event_fits : List Item → Option ℤ → Option ℕ → Bool
event_fits items (Some id) None = true
event_fits items (Some id) (Some e) = false
event_fits items None None = false
event_fits items None (Some e) = is_event (slice_get items e)

pub record LocationKept (w : World) (l : Location) : Type 0 where
  pub name : IsName 128 l.name
  pub id : IsIdOrNone l.id
  pub region : l.region < length w.regions
  pub rule : RuleKept w.items (place_count w) l.rule
  pub event : event_fits w.items l.id l.event ≡ true

pub record LocationsKept (w : World) : Type 0 where
  pub count : length w.locations ≤ 10000
  pub each : All (LocationKept w) w.locations
  pub names : NamesDiffer (map location_name w.locations)
  pub ids : IdsDiffer (map location_id w.locations)

-- ---- the pool and the filler

abbrev pub copies : PoolEntry → ℕ
copies p = p.count

-- so many copies of an item with an id
pub record EntryKept (items : List Item) (p : PoolEntry) : Type 0 where
  pub item : has_id (slice_get items p.item) ≡ true
  pub low : 1 ≤ p.count
  pub high : p.count ≤ 10000

-- at most 10,000 copies together
pub record PoolKept (items : List Item) (pool : List PoolEntry) : Type 0 where
  pub each : All (EntryKept items) pool
  pub together : sum_by copies pool ≤ 10000

abbrev pub is_filler_class : Class → Bool
is_filler_class Progression = false
is_filler_class Useful = false
is_filler_class Filler = true
is_filler_class Trap = false

-- an item of class filler
abbrev pub is_filler : Option Item → Bool
is_filler (Some i) = is_filler_class i.class
is_filler None = false

-- an item with an id and of class filler
pub record FillerKept (items : List Item) (i : ℕ) : Type 0 where
  pub id : has_id (slice_get items i) ≡ true
  pub class : is_filler (slice_get items i) ≡ true

-- ---- the whole

pub record IsWorld (w : World) : Type 0 where
  pub game : IsName 128 w.game
  pub origin : w.origin < length w.regions
  pub regions : RegionsKept w.regions
  pub items : ItemsKept w.items
  pub entrances : EntrancesKept w
  pub locations : LocationsKept w
  pub pool : PoolKept w.items w.pool
  pub filler : FillerKept w.items w.filler
  pub goal : RuleKept w.items (place_count w) w.goal
