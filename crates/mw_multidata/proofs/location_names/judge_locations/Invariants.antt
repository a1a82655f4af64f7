use Rattle.std.proofs.Common.{◌≡◌, drop, None}
use Rattle.mw_multidata.specs.Names.{locations_named}
use Rattle.mw_multidata.proofs.location_names.judge_locations.Given as goal

abbrev pub invariant-loop-i : goal.invariant-loop-i
invariant-loop-i l = locations_named l.played l.grouped l.before l.i (drop l.i l.locations) ≡ locations_named l.played l.grouped None 0 l.locations
