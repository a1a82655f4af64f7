-- The options' names in a players file.
use Rattle.std.specs.Prelude.{ℕ, List, codes}
use Rattle.mw_multi.specs.declared.refusal.OptionName.{OptionName}
use Rattle.mw_multi.specs.declared.refusal.OptionName.TheVariants.{LocalItems, NonLocalItems, ExcludeLocations, PriorityLocations, StartInventory}

abbrev pub option_text : OptionName → List ℕ
option_text LocalItems = codes "local_items"
option_text NonLocalItems = codes "non_local_items"
option_text ExcludeLocations = codes "exclude_locations"
option_text PriorityLocations = codes "priority_locations"
option_text StartInventory = codes "start_inventory"
