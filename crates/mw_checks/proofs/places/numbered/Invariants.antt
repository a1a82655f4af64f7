use Rattle.std.proofs.Common.{◌≤◌, drop, length}
use Rattle.mw_checks.specs.Numbers.{IsIndexFrom, AllIds}
use Rattle.mw_checks.proofs.places.numbered.Given as goal

-- the locations from here on are numbered
abbrev pub invariant-loop-at : goal.invariant-loop-at
invariant-loop-at l = record {
  within : l.at ≤ length l.locations;
  numbered : IsIndexFrom l.at (drop l.at l.locations) l.numbers;
  ids : AllIds (drop l.at l.locations);
}

abbrev pub decreases-loop-at : goal.decreases-loop-at
decreases-loop-at l = l.at
