-- A world file that is accepted stands for a world.
use Rattle.std.proofs.Common.{◌≡◌, ◌<◌, ℕ, ℤ, ◌+◌, ◌&&◌, List, [], ◌∷◌, length, map, Bool, true, false, Option, Some, None, Ok, All, refl, sym, ap, ap₂, ◌∙◌, subst, arith}
use Rattle.std.specs.Prelude.{IfOk, codes, slice_get, sum_by}
use Rattle.std.proofs.lemmas.Grind.{common_steps}
use Rattle.std.proofs.lemmas.List.Elements.{All-nil, All-cons, All-head, All-tail, All-weaker}
use Rattle.std.proofs.lemmas.List.Sums.{sum_by-cons}
use Rattle.std.proofs.lemmas.Result.{IfOk-weaker, IfOk-at_ok}
use Rattle.mw_model.specs.Json.{Json}
use Rattle.mw_json.specs.Grammar.{under}
use Rattle.mw_json.specs.declared.refusal.Kind.{Kind}
use Rattle.mw_json.specs.declared.refusal.Kind.TheVariants.{DuplicateName, DuplicateId, UnknownName}
use Rattle.mw_json.specs.declared.refusal.Step.TheVariants.{Name, Index}
use Rattle.mw_multi.specs.Names.{IsName, NamesDiffer, IdsDiffer}
use Rattle.mw_multi.specs.RulesKept.{RuleKept}
use Rattle.mw_multi.specs.World.{Item, Entrance, Location, PoolEntry, place_count}
use Rattle.mw_multi.specs.WorldKept.{IsIdOrNone, item_name, item_id, is_event, has_id, entrance_name, EntranceKept, location_name, location_id, event_fits, LocationKept, copies, EntryKept, is_filler, IsWorld}
use Rattle.mw_multi.specs.Indexes.{index_of_name, index_of_id}
use Rattle.mw_tables.specs.Names.{demand, is_at, stands_first, id_stands_first, names_once}
use Rattle.mw_tables.specs.Raw.{RawEntrance, RawLocation, RawEntry, RawWorld}
use Rattle.mw_tables.specs.RuleNames.{region_named, item_such, raw_location_name, rule_named}
use Rattle.mw_tables.specs.Small.{IsSmall}
use Rattle.mw_tables.specs.WorldNames.{item_named, items_named, raw_entrance_name, entrance_named, entrances_named, raw_location_id, event_named, location_once, location_named, locations_named, entry_named, entries_named, may_fill, NamedWorld, start_named, rows_named, world_names}
use Rattle.mw_tables.specs.declared.named_rows.NamedRows.{NamedRows}
use Rattle.mw_tables.specs.WorldOf.{resolved}
use Rattle.mw_tables.specs.WorldShape.{entry_count, world_shape_at}
use Rattle.mw_tables.proofs.Distinct.{FirstAt, FirstIdAt, names_differ, ids_differ}
use Rattle.mw_json.proofs.Passing.{after, within}
use Rattle.mw_tables.proofs.RuleResolved.{places, region_within, Passes, such_passes, rule_resolved}
use Rattle.mw_tables.proofs.Shaped.{RawEntranceKept, EventStands, RawLocationKept, RawEntryKept, IsShaped, world_shaped, shaped_is_small}

-- ---- what stands first

is_there : (i : ℕ) (found : Option ℕ) → is_at i found ≡ true → found ≡ Some i
is_there i (Some k) h = let same : k ≡ i = grind (arith, common_steps) in ap Some same
is_there i None h = cc

name_first : (kind : Kind) (names : List (List ℕ)) (i : ℕ) (name : List ℕ) (b : Bool) → stands_first names i name ≡ b → IfOk (demand kind b) (λ _. index_of_name names name ≡ Some i)
name_first kind names i name true e = is_there i (index_of_name names name) e
name_first kind names i name false e = tt

-- what an id has to be to stand first
abbrev IdFirst : List (Option ℤ) → ℕ → Option ℤ → Type 0
IdFirst ids i (Some x) = index_of_id ids x ≡ Some i
IdFirst ids i None = Unit {0}

id_is_first : (ids : List (Option ℤ)) (i : ℕ) (id : Option ℤ) → id_stands_first ids i id ≡ true → IdFirst ids i id
id_is_first ids i (Some x) e = is_there i (index_of_id ids x) e
id_is_first ids i None e = tt

id_first : (kind : Kind) (ids : List (Option ℤ)) (i : ℕ) (id : Option ℤ) (b : Bool) → id_stands_first ids i id ≡ b → IfOk (demand kind b) (λ _. IdFirst ids i id)
id_first kind ids i id true e = id_is_first ids i id e
id_first kind ids i id false e = tt

id_and_others : (whole : List (Option ℤ)) (i : ℕ) (id : Option ℤ) (ids : List (Option ℤ)) → IdFirst whole i id → FirstIdAt whole (i + 1) ids → FirstIdAt whole i (id ∷ ids)
id_and_others whole i (Some x) ids h k = (h, k)
id_and_others whole i None ids h k = k

once : (whole : List (List ℕ)) (i : ℕ) (ns : List (List ℕ)) → IfOk (names_once whole i ns) (λ _. FirstAt whole i ns)
once whole i [] = tt
once whole i (n ∷ ns) =
    let First : Unit {0} → Type 0 = λ _. index_of_name whole n ≡ Some i in
    after First (λ _. FirstAt whole i (n ∷ ns)) (under (Index i) (demand DuplicateName (stands_first whole i n))) _ (within First (Index i) (demand DuplicateName (stands_first whole i n)) (name_first DuplicateName whole i n (stands_first whole i n) refl)) (λ first h.
    IfOk-weaker (names_once whole (i + 1) ns) (λ _. FirstAt whole (i + 1) ns) (λ _. FirstAt whole i (n ∷ ns)) (λ others k. (h, k)) (once whole (i + 1) ns))

-- ---- items

abbrev ItemsFirst : RawWorld → ℕ → List Item → Unit {0} → Type 0
ItemsFirst w i xs t = FirstAt (map item_name w.items) i (map item_name xs) × FirstIdAt (map item_id w.items) i (map item_id xs)

abbrev ItemFirst : RawWorld → ℕ → Item → Unit {0} → Type 0
ItemFirst w i x t = (index_of_name (map item_name w.items) x.name ≡ Some i) × IdFirst (map item_id w.items) i x.id

item_first : (w : RawWorld) (i : ℕ) (x : Item) → IfOk (item_named w i x) (ItemFirst w i x)
unfolding item_named
item_first w i x =
    let NameFirst : Unit {0} → Type 0 = λ _. index_of_name (map item_name w.items) x.name ≡ Some i in
    let OwnFirst : Unit {0} → Type 0 = λ _. IdFirst (map item_id w.items) i x.id in
    let name = demand DuplicateName (stands_first (map item_name w.items) i x.name) in
    let id = demand DuplicateId (id_stands_first (map item_id w.items) i x.id) in
    after NameFirst (ItemFirst w i x) (under (Name (codes "name")) name) _ (within NameFirst (Name (codes "name")) name (name_first DuplicateName (map item_name w.items) i x.name (stands_first (map item_name w.items) i x.name) refl)) (λ t h.
    IfOk-weaker (under (Name (codes "id")) id) OwnFirst (ItemFirst w i x) (λ u k. (h, k)) (within OwnFirst (Name (codes "id")) id (id_first DuplicateId (map item_id w.items) i x.id (id_stands_first (map item_id w.items) i x.id) refl)))

items_first : (w : RawWorld) (i : ℕ) (xs : List Item) → IfOk (items_named w i xs) (ItemsFirst w i xs)
items_first w i [] = (tt, tt)
items_first w i (x ∷ xs) =
    after (ItemFirst w i x) (ItemsFirst w i (x ∷ xs)) (under (Index i) (item_named w i x)) _ (within (ItemFirst w i x) (Index i) (item_named w i x) (item_first w i x)) (λ t h.
    IfOk-weaker (items_named w (i + 1) xs) (ItemsFirst w (i + 1) xs) (ItemsFirst w i (x ∷ xs)) (λ u k. ((h.0, k.0), id_and_others (map item_id w.items) i x.id (map item_id xs) h.1 k.1)) (items_first w (i + 1) xs))

-- ---- entrances

record NamedEntranceKept (w : RawWorld) (e : Entrance) : Type 0 where
  name : IsName 128 e.name
  starts : e.from < length w.regions
  leads : e.to < length w.regions
  rule : RuleKept w.items (places w) e.rule

record EntranceNamed (w : RawWorld) (i : ℕ) (raw : RawEntrance) (e : Entrance) : Type 0 where
  kept : NamedEntranceKept w e
  same : e.name ≡ raw.name
  first : index_of_name (map raw_entrance_name w.entrances) raw.name ≡ Some i

entrance_keeps : (w : RawWorld) (i : ℕ) (e : RawEntrance) → RawEntranceKept e → IfOk (entrance_named w i e) (EntranceNamed w i e)
unfolding entrance_named
entrance_keeps w i e h =
    let NameFirst : Unit {0} → Type 0 = λ _. index_of_name (map raw_entrance_name w.entrances) e.name ≡ Some i in
    let name = demand DuplicateName (stands_first (map raw_entrance_name w.entrances) i e.name) in
    let Region : ℕ → Type 0 = λ r. r < length w.regions in
    after NameFirst (EntranceNamed w i e) (under (Name (codes "name")) name) _ (within NameFirst (Name (codes "name")) name (name_first DuplicateName (map raw_entrance_name w.entrances) i e.name (stands_first (map raw_entrance_name w.entrances) i e.name) refl)) (λ t first.
    after Region (EntranceNamed w i e) (under (Name (codes "from")) (region_named w e.from)) _ (within Region (Name (codes "from")) (region_named w e.from) (region_within w e.from)) (λ from f.
    after Region (EntranceNamed w i e) (under (Name (codes "to")) (region_named w e.to)) _ (within Region (Name (codes "to")) (region_named w e.to) (region_within w e.to)) (λ to g.
    after (RuleKept w.items (places w)) (EntranceNamed w i e) (under (Name (codes "rule")) (rule_named w e.rule)) _ (within (RuleKept w.items (places w)) (Name (codes "rule")) (rule_named w e.rule) (rule_resolved w e.rule h.rule)) (λ rule r.
    record { kept = record { name = h.name; starts = f; leads = g; rule = r }; same = refl; first = first }))))

record EntrancesNamed (w : RawWorld) (i : ℕ) (raw : List RawEntrance) (es : List Entrance) : Type 0 where
  kept : All (NamedEntranceKept w) es
  same : map entrance_name es ≡ map raw_entrance_name raw
  first : FirstAt (map raw_entrance_name w.entrances) i (map raw_entrance_name raw)
  total : length es ≡ length raw

entrances_keep : (w : RawWorld) (i : ℕ) (es : List RawEntrance) → All RawEntranceKept es → IfOk (entrances_named w i es) (EntrancesNamed w i es)
entrances_keep w i [] h = record { kept = All-nil _; same = refl; first = tt; total = refl }
entrances_keep w i (e ∷ es) h =
    after (EntranceNamed w i e) (EntrancesNamed w i (e ∷ es)) (under (Index i) (entrance_named w i e)) _ (within (EntranceNamed w i e) (Index i) (entrance_named w i e) (entrance_keeps w i e (All-head RawEntranceKept e es h))) (λ x k.
    after (EntrancesNamed w (i + 1) es) (EntrancesNamed w i (e ∷ es)) (entrances_named w (i + 1) es) _ (entrances_keep w (i + 1) es (All-tail RawEntranceKept e es h)) (λ xs l.
    record { kept = All-cons (NamedEntranceKept w) x xs k.kept l.kept; same = ap₂ (λ n ns. n ∷ ns) k.same l.same; first = (k.first, l.first); total = omega (arith, l.total) }))

-- ---- locations

record NamedLocationKept (w : RawWorld) (l : Location) : Type 0 where
  name : IsName 128 l.name
  id : IsIdOrNone l.id
  region : l.region < length w.regions
  rule : RuleKept w.items (places w) l.rule
  event : event_fits w.items l.id l.event ≡ true

record LocationNamed (w : RawWorld) (i : ℕ) (raw : RawLocation) (l : Location) : Type 0 where
  kept : NamedLocationKept w l
  same : l.name ≡ raw.name
  same_id : l.id ≡ raw.id
  first : index_of_name (map raw_location_name w.locations) raw.name ≡ Some i
  id_first : IdFirst (map raw_location_id w.locations) i raw.id

known_event_fits : (w : RawWorld) (name : List ℕ) → IfOk (event_named w (Some name)) (λ e. event_fits w.items None e ≡ true)
known_event_fits w name = after (Passes is_event w) (λ e. event_fits w.items None e ≡ true) (item_such is_event UnknownName w name) _ (such_passes is_event UnknownName w name) (λ i h. h.1)

event_keeps : (w : RawWorld) (id : Option ℤ) (event : Option (List ℕ)) → EventStands id event → IfOk (event_named w event) (λ e. event_fits w.items id e ≡ true)
event_keeps w (Some id) None h = refl
event_keeps w (Some id) (Some name) h = absurd h
event_keeps w None None h = absurd h
event_keeps w None (Some name) h = known_event_fits w name

abbrev LocationFirst : RawWorld → ℕ → RawLocation → Unit {0} → Type 0
LocationFirst w i l t = (index_of_name (map raw_location_name w.locations) l.name ≡ Some i) × IdFirst (map raw_location_id w.locations) i l.id

location_first : (w : RawWorld) (i : ℕ) (l : RawLocation) → IfOk (location_once w i l) (LocationFirst w i l)
unfolding location_once
location_first w i l =
    let NameFirst : Unit {0} → Type 0 = λ _. index_of_name (map raw_location_name w.locations) l.name ≡ Some i in
    let OwnFirst : Unit {0} → Type 0 = λ _. IdFirst (map raw_location_id w.locations) i l.id in
    let name = demand DuplicateName (stands_first (map raw_location_name w.locations) i l.name) in
    let id = demand DuplicateId (id_stands_first (map raw_location_id w.locations) i l.id) in
    after NameFirst (LocationFirst w i l) (under (Name (codes "name")) name) _ (within NameFirst (Name (codes "name")) name (name_first DuplicateName (map raw_location_name w.locations) i l.name (stands_first (map raw_location_name w.locations) i l.name) refl)) (λ t h.
    IfOk-weaker (under (Name (codes "id")) id) OwnFirst (LocationFirst w i l) (λ u k. (h, k)) (within OwnFirst (Name (codes "id")) id (id_first DuplicateId (map raw_location_id w.locations) i l.id (id_stands_first (map raw_location_id w.locations) i l.id) refl)))

location_keeps : (w : RawWorld) (i : ℕ) (l : RawLocation) → RawLocationKept l → IfOk (location_named w i l) (LocationNamed w i l)
unfolding location_named
location_keeps w i l h =
    let Region : ℕ → Type 0 = λ r. r < length w.regions in
    let Event : Option ℕ → Type 0 = λ e. event_fits w.items l.id e ≡ true in
    after (LocationFirst w i l) (LocationNamed w i l) (location_once w i l) _ (location_first w i l) (λ t first.
    after Region (LocationNamed w i l) (under (Name (codes "region")) (region_named w l.region)) _ (within Region (Name (codes "region")) (region_named w l.region) (region_within w l.region)) (λ region g.
    after (RuleKept w.items (places w)) (LocationNamed w i l) (under (Name (codes "rule")) (rule_named w l.rule)) _ (within (RuleKept w.items (places w)) (Name (codes "rule")) (rule_named w l.rule) (rule_resolved w l.rule h.rule)) (λ rule r.
    after Event (LocationNamed w i l) (under (Name (codes "event")) (event_named w l.event)) _ (within Event (Name (codes "event")) (event_named w l.event) (event_keeps w l.id l.event h.event)) (λ event e.
    record { kept = record { name = h.name; id = h.id; region = g; rule = r; event = e }; same = refl; same_id = refl; first = first.0; id_first = first.1 }))))

record LocationsNamed (w : RawWorld) (i : ℕ) (raw : List RawLocation) (ls : List Location) : Type 0 where
  kept : All (NamedLocationKept w) ls
  same : map location_name ls ≡ map raw_location_name raw
  same_ids : map location_id ls ≡ map raw_location_id raw
  first : FirstAt (map raw_location_name w.locations) i (map raw_location_name raw)
  ids_first : FirstIdAt (map raw_location_id w.locations) i (map raw_location_id raw)
  total : length ls ≡ length raw

locations_keep : (w : RawWorld) (i : ℕ) (ls : List RawLocation) → All RawLocationKept ls → IfOk (locations_named w i ls) (LocationsNamed w i ls)
locations_keep w i [] h = record { kept = All-nil _; same = refl; same_ids = refl; first = tt; ids_first = tt; total = refl }
locations_keep w i (l ∷ ls) h =
    after (LocationNamed w i l) (LocationsNamed w i (l ∷ ls)) (under (Index i) (location_named w i l)) _ (within (LocationNamed w i l) (Index i) (location_named w i l) (location_keeps w i l (All-head RawLocationKept l ls h))) (λ x k.
    after (LocationsNamed w (i + 1) ls) (LocationsNamed w i (l ∷ ls)) (locations_named w (i + 1) ls) _ (locations_keep w (i + 1) ls (All-tail RawLocationKept l ls h)) (λ xs m.
    record {
      kept = All-cons (NamedLocationKept w) x xs k.kept m.kept;
      same = ap₂ (λ n ns. n ∷ ns) k.same m.same;
      same_ids = ap₂ (λ n ns. n ∷ ns) k.same_id m.same_ids;
      first = (k.first, m.first);
      ids_first = id_and_others (map raw_location_id w.locations) i l.id (map raw_location_id ls) k.id_first m.ids_first;
      total = omega (arith, m.total);
    }))

-- ---- the pool

record EntryNamed (w : RawWorld) (raw : RawEntry) (p : PoolEntry) : Type 0 where
  kept : EntryKept w.items p
  same : p.count ≡ raw.count

entry_keeps : (w : RawWorld) (p : RawEntry) → RawEntryKept p → IfOk (entry_named w p) (EntryNamed w p)
unfolding entry_named
entry_keeps w p h =
    after (Passes has_id w) (EntryNamed w p) (under (Name (codes "item")) (item_such has_id UnknownName w p.item)) _ (within (Passes has_id w) (Name (codes "item")) (item_such has_id UnknownName w p.item) (such_passes has_id UnknownName w p.item)) (λ i k.
    record { kept = record { item = k.1; low = h.low; high = h.high }; same = refl })

record EntriesNamed (w : RawWorld) (raw : List RawEntry) (ps : List PoolEntry) : Type 0 where
  kept : All (EntryKept w.items) ps
  together : sum_by copies ps ≡ sum_by entry_count raw

entries_keep : (w : RawWorld) (i : ℕ) (ps : List RawEntry) → All RawEntryKept ps → IfOk (entries_named w i ps) (EntriesNamed w ps)
entries_keep w i [] h = record { kept = All-nil _; together = refl }
entries_keep w i (p ∷ ps) h =
    after (EntryNamed w p) (EntriesNamed w (p ∷ ps)) (under (Index i) (entry_named w p)) _ (within (EntryNamed w p) (Index i) (entry_named w p) (entry_keeps w p (All-head RawEntryKept p ps h))) (λ x k.
    after (EntriesNamed w ps) (EntriesNamed w (p ∷ ps)) (entries_named w (i + 1) ps) _ (entries_keep w (i + 1) ps (All-tail RawEntryKept p ps h)) (λ xs l.
    record {
      kept = All-cons (EntryKept w.items) x xs k.kept l.kept;
      together = sum_by-cons copies x xs ∙ ap₂ (λ a b. a + b) k.same l.together ∙ sym (sum_by-cons entry_count p ps);
    }))

-- ---- the whole

record AreNamed (w : RawWorld) (n : NamedWorld) : Type 0 where
  origin : n.origin < length w.regions
  regions : FirstAt w.regions 0 w.regions
  items : ItemsFirst w 0 w.items tt
  entrances : EntrancesNamed w 0 w.entrances n.entrances
  locations : LocationsNamed w 0 w.locations n.locations
  pool : EntriesNamed w w.pool n.pool
  filler : Passes may_fill w n.filler
  goal : RuleKept w.items (places w) n.goal

record StartNamed (w : RawWorld) (origin : ℕ) : Type 0 where
  within_regions : origin < length w.regions
  regions : FirstAt w.regions 0 w.regions
  items : ItemsFirst w 0 w.items tt

start_keeps : (w : RawWorld) → IfOk (start_named w) (StartNamed w)
unfolding start_named
start_keeps w =
    let Region : ℕ → Type 0 = λ r. r < length w.regions in
    let Regions : Unit {0} → Type 0 = λ _. FirstAt w.regions 0 w.regions in
    after Region (StartNamed w) (under (Name (codes "origin")) (region_named w w.origin)) _ (within Region (Name (codes "origin")) (region_named w w.origin) (region_within w w.origin)) (λ origin o.
    after Regions (StartNamed w) (under (Name (codes "regions")) (names_once w.regions 0 w.regions)) _ (within Regions (Name (codes "regions")) (names_once w.regions 0 w.regions) (once w.regions 0 w.regions)) (λ t r.
    after (ItemsFirst w 0 w.items) (StartNamed w) (under (Name (codes "items")) (items_named w 0 w.items)) _ (within (ItemsFirst w 0 w.items) (Name (codes "items")) (items_named w 0 w.items) (items_first w 0 w.items)) (λ u i.
    record { within_regions = o; regions = r; items = i })))

record RowsNamed (w : RawWorld) (n : NamedRows) : Type 0 where
  entrances : EntrancesNamed w 0 w.entrances n.entrances
  locations : LocationsNamed w 0 w.locations n.locations
  pool : EntriesNamed w w.pool n.pool

rows_keep : (w : RawWorld) → IsShaped w → IfOk (rows_named w) (RowsNamed w)
unfolding rows_named
rows_keep w h =
    after (EntrancesNamed w 0 w.entrances) (RowsNamed w) (under (Name (codes "entrances")) (entrances_named w 0 w.entrances)) _ (within (EntrancesNamed w 0 w.entrances) (Name (codes "entrances")) (entrances_named w 0 w.entrances) (entrances_keep w 0 w.entrances h.entrances.1)) (λ entrances e.
    after (LocationsNamed w 0 w.locations) (RowsNamed w) (under (Name (codes "locations")) (locations_named w 0 w.locations)) _ (within (LocationsNamed w 0 w.locations) (Name (codes "locations")) (locations_named w 0 w.locations) (locations_keep w 0 w.locations h.locations.1)) (λ locations l.
    after (EntriesNamed w w.pool) (RowsNamed w) (under (Name (codes "pool")) (entries_named w 0 w.pool)) _ (within (EntriesNamed w w.pool) (Name (codes "pool")) (entries_named w 0 w.pool) (entries_keep w 0 w.pool h.pool.each)) (λ pool p.
    record { entrances = e; locations = l; pool = p })))

names_keep : (w : RawWorld) → IsShaped w → IfOk (world_names w) (AreNamed w)
unfolding world_names
names_keep w h =
    after (StartNamed w) (AreNamed w) (start_named w) _ (start_keeps w) (λ origin o.
    after (RowsNamed w) (AreNamed w) (rows_named w) _ (rows_keep w h) (λ rows r.
    after (Passes may_fill w) (AreNamed w) (under (Name (codes "filler")) (item_such may_fill UnknownName w w.filler)) _ (within (Passes may_fill w) (Name (codes "filler")) (item_such may_fill UnknownName w w.filler) (such_passes may_fill UnknownName w w.filler)) (λ filler f.
    after (RuleKept w.items (places w)) (AreNamed w) (under (Name (codes "goal")) (rule_named w w.goal)) _ (within (RuleKept w.items (places w)) (Name (codes "goal")) (rule_named w w.goal) (rule_resolved w w.goal h.goal)) (λ goal g.
    record { origin = o.within_regions; regions = o.regions; items = o.items; entrances = r.entrances; locations = r.locations; pool = r.pool; filler = f; goal = g }))))

both : (a b : Bool) → (a && b) ≡ true → (a ≡ true) × (b ≡ true)
both true b h = (refl, h)
both false b h = cc

kept : (w : RawWorld) (n : NamedWorld) → IsShaped w → AreNamed w n → IsWorld (resolved w n)
kept w n h k =
    let same_places : places w ≡ place_count (resolved w n) = omega (arith, k.locations.total) in
    let fills = both (has_id (slice_get w.items n.filler)) (is_filler (slice_get w.items n.filler)) k.filler.1 in
    record {
      game = h.game;
      origin = k.origin;
      regions = record { count = h.regions.0; names = h.regions.1; differ = names_differ w.regions k.regions };
      items = record { count = h.items.0; each = h.items.1; names = names_differ (map item_name w.items) k.items.0; ids = ids_differ (map item_id w.items) k.items.1 };
      entrances = record {
        count = omega (arith, k.entrances.total, h.entrances.0);
        each = All-weaker (NamedEntranceKept w) (EntranceKept (resolved w n)) (λ e x. record { name = x.name; starts = x.starts; leads = x.leads; rule = subst (λ p. RuleKept w.items p e.rule) same_places x.rule }) n.entrances k.entrances.kept;
        names = subst NamesDiffer (sym k.entrances.same) (names_differ (map raw_entrance_name w.entrances) k.entrances.first);
      };
      locations = record {
        count = omega (arith, k.locations.total, h.locations.0);
        each = All-weaker (NamedLocationKept w) (LocationKept (resolved w n)) (λ l x. record { name = x.name; id = x.id; region = x.region; rule = subst (λ p. RuleKept w.items p l.rule) same_places x.rule; event = x.event }) n.locations k.locations.kept;
        names = subst NamesDiffer (sym k.locations.same) (names_differ (map raw_location_name w.locations) k.locations.first);
        ids = subst IdsDiffer (sym k.locations.same_ids) (ids_differ (map raw_location_id w.locations) k.locations.ids_first);
      };
      pool = record { each = k.pool.kept; together = omega (arith, k.pool.together, h.pool.together) };
      filler = record { id = fills.0; class = fills.1 };
      goal = subst (λ p. RuleKept w.items p n.goal) same_places k.goal;
    }

-- what has the shape and known names is a world
pub is_world : (j : Json) (w : RawWorld) (n : NamedWorld) → world_shape_at j ≡ Ok w → world_names w ≡ Ok n → IsWorld (resolved w n)
is_world j w n shape names =
    let h = IfOk-at_ok IsShaped shape (world_shaped j) in
    kept w n h (IfOk-at_ok (AreNamed w) names (names_keep w h))

pub is_small : (j : Json) (w : RawWorld) → world_shape_at j ≡ Ok w → IsSmall w
is_small j w shape = shaped_is_small w (IfOk-at_ok IsShaped shape (world_shaped j))
