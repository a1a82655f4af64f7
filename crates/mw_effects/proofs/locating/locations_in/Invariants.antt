use Rattle.std.proofs.Common.{◌≡◌, ◌++◌, ℕ, drop, map}
use Rattle.mw_checks.specs.Log.{checks_of}
use Rattle.mw_protocol.specs.Locations.{location_of}
use Rattle.mw_effects.proofs.locating.locations_in.Given as goal

abbrev pub invariant-loop-pair : goal.invariant-loop-pair
invariant-loop-pair l = (team : ℕ) → l.found ++ map location_of (checks_of team (drop l.pair-index l.new)) ≡ map location_of (checks_of team l.new)
