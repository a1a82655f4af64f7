use Rattle.std.proofs.Common.{◌≡◌, ◌+◌, drop}
use Rattle.mw_effects.specs.Parts.{place_of_status}
use Rattle.mw_effects.proofs.status.place_of.Given as goal

abbrev pub invariant-loop-at : goal.invariant-loop-at
invariant-loop-at l = place_of_status l.new.team l.new.slot l.statuses ≡ l.at + place_of_status l.new.team l.new.slot (drop l.at l.statuses)
