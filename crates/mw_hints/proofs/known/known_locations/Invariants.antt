use Rattle.std.proofs.Common.{◌≡◌, [], drop}
use Rattle.mw_hints.specs.Scouted.{found_with}
use Rattle.mw_hints.proofs.known.known_locations.Given as goal

-- what is found, with the known ones among the numbers that are left
abbrev pub invariant-loop-number : goal.invariant-loop-number
invariant-loop-number g l =
    found_with (g.C.Checks.seed l.log) l.team l.slot l.found.keys (drop l.number-index l.numbers)
    ≡ found_with (g.C.Checks.seed l.log) l.team l.slot [] l.numbers
