-- Where the names of a table differ, so do its labels.
use Rattle.std.proofs.Common.{◌≡◌, ℕ, List, [], ◌∷◌, map, Bool, true, false}
use Rattle.std.specs.Prelude.{Option, Some, None, bytes_eq, filter_map, if◌then◌else◌}
use Rattle.std.specs.List.{IsDistinct, AllByRecursion}
use Rattle.mw_multi.specs.World.{Item, Location}
use Rattle.mw_multi.specs.WorldKept.{item_name, location_name}
use Rattle.mw_multi.specs.Names.{NamesDiffer}
use Rattle.mw_multi.specs.Labels.{LabelsDiffer, item_labels, location_labels}

-- the name differs from each of these
abbrev DiffersFrom : List ℕ → List (List ℕ) → Type 0
DiffersFrom name names = AllByRecursion (λ y. bytes_eq name y ≡ false) names

abbrev labelled : List (Option (List ℕ)) → List (List ℕ)
labelled labels = filter_map (λ l. l) labels

-- one label more or none
keeps_differing : (b : Bool) (name label : List ℕ) (labels : List (Option (List ℕ))) → bytes_eq name label ≡ false → DiffersFrom name (labelled labels)
    → DiffersFrom name (labelled ((if b then Some label else None) ∷ labels))
keeps_differing true name label labels d ds = (d, ds)
keeps_differing false name label labels d ds = ds

keeps_distinct : (b : Bool) (label : List ℕ) (labels : List (Option (List ℕ))) → DiffersFrom label (labelled labels) → LabelsDiffer labels
    → LabelsDiffer ((if b then Some label else None) ∷ labels)
unfolding IsDistinct
keeps_distinct true label labels d ds = (d, ds)
keeps_distinct false label labels d ds = ds

item_differs : (name : List ℕ) (items : List Item) → DiffersFrom name (map item_name items) → DiffersFrom name (labelled (item_labels items))
item_differs name [] d = tt
item_differs name (i ∷ items) d = keeps_differing _ name i.name (item_labels items) d.0 (item_differs name items d.1)

pub item_labels_differ : (items : List Item) → NamesDiffer (map item_name items) → LabelsDiffer (item_labels items)
unfolding IsDistinct
item_labels_differ [] d = tt
item_labels_differ (i ∷ items) d = keeps_distinct _ i.name (item_labels items) (item_differs i.name items d.0) (item_labels_differ items d.1)

location_differs : (name : List ℕ) (locations : List Location) → DiffersFrom name (map location_name locations) → DiffersFrom name (labelled (location_labels locations))
location_differs name [] d = tt
location_differs name (l ∷ locations) d = keeps_differing _ name l.name (location_labels locations) d.0 (location_differs name locations d.1)

pub location_labels_differ : (locations : List Location) → NamesDiffer (map location_name locations) → LabelsDiffer (location_labels locations)
unfolding IsDistinct
location_labels_differ [] d = tt
location_labels_differ (l ∷ locations) d = keeps_distinct _ l.name (location_labels locations) (location_differs l.name locations d.0) (location_labels_differ locations d.1)
