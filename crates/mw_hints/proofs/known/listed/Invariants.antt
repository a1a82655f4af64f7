use Rattle.std.proofs.Common.{◌≡◌, ◌++◌, drop}
use Rattle.mw_hints.proofs.known.listed.Given as goal

abbrev pub invariant-loop-location : goal.invariant-loop-location
invariant-loop-location l = l.list ++ drop l.location-index l.location-items ≡ l.found.keys
