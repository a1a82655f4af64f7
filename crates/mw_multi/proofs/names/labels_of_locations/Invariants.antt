use Rattle.std.proofs.Common.{◌≡◌, take}
use Rattle.mw_multi.specs.Labels.{location_labels}
use Rattle.mw_multi.proofs.names.labels_of_locations.Given as goal

abbrev pub invariant-loop-location : goal.invariant-loop-location
invariant-loop-location l = l.labels ≡ location_labels (take l.location-index l.locations)
