use Rattle.std.proofs.Common.{◌≡◌, ◌++◌, ℕ, drop}
use Rattle.mw_checks.specs.Log.{checks_of}
use Rattle.mw_protocol.specs.Checks.{checks_at}
use Rattle.mw_effects.proofs.entered.pairs_of.Given as goal

-- the pairs, with those of the locations that are left, are all
abbrev pub invariant-loop-location : goal.invariant-loop-location
invariant-loop-location l = (team : ℕ) → checks_of team l.pairs ++ checks_at team l.slot (drop l.location-index l.locations) ≡ checks_at team l.slot l.locations
