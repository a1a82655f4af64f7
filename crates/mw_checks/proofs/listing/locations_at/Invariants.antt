use Rattle.std.proofs.Common.{◌≡◌, ◌++◌, drop, map}
use Rattle.mw_checks.specs.Rows.{location_of, standing}
use Rattle.mw_checks.proofs.listing.locations_at.Given as goal

abbrev pub invariant-loop-number : goal.invariant-loop-number
invariant-loop-number l = l.found ++ map location_of (standing l.places.locations (drop l.number-index l.numbers)) ≡ map location_of (standing l.places.locations l.numbers)
