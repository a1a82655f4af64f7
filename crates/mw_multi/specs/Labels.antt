-- How options name items and locations: by the names of those with an id.
use Rattle.std.specs.Prelude.{ℕ, List, Bool, false, Option, Some, None, bytes_eq, map, is_some, filter_map, if◌then◌else◌}
use Rattle.std.specs.List.{position_from}
use Rattle.mw_multi.specs.World.{Item, Location}
use Rattle.mw_multi.specs.Names.{NamesDiffer}
use Rattle.mw_multi.specs.Files.{is_among}

-- an entry's name, where the entry has an id
abbrev pub item_label : Item → Option (List ℕ)
item_label i = if is_some i.id then Some i.name else None

abbrev pub location_label : Location → Option (List ℕ)
location_label l = if is_some l.id then Some l.name else None

abbrev pub item_labels : List Item → List (Option (List ℕ))
item_labels items = map item_label items

abbrev pub location_labels : List Location → List (Option (List ℕ))
location_labels locations = map location_label locations

-- no two entries have the same name
abbrev pub LabelsDiffer : List (Option (List ℕ)) → Type 0
LabelsDiffer labels = NamesDiffer (filter_map (λ label. label) labels)

abbrev pub is_called : List ℕ → Option (List ℕ) → Bool
is_called name (Some label) = bytes_eq name label
is_called name None = false

-- the index of the entry of this name
abbrev pub index_of : List (Option (List ℕ)) → List ℕ → Option ℕ
index_of labels name = position_from (is_called name) 0 labels

abbrev pub is_listed : List (List ℕ) → Option (List ℕ) → Bool
is_listed names (Some label) = is_among names label
is_listed names None = false

-- for each entry, whether its name is listed
abbrev pub flags_of : List (Option (List ℕ)) → List (List ℕ) → List Bool
flags_of labels names = map (is_listed names) labels
