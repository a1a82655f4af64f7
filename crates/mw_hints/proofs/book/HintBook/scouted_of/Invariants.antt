use Rattle.std.proofs.Common.{◌≡◌, ◌++◌, drop, map}
use Rattle.mw_protocol.specs.Checks.{checks_at}
use Rattle.mw_protocol.specs.Hints.{scouted_among}
use Rattle.mw_protocol.specs.Records.{hint}
use Rattle.mw_records.specs.Records.{hint_view}
use Rattle.mw_hints.proofs.book.HintBook.scouted_of.Given as goal

abbrev pub invariant-loop-location : goal.invariant-loop-location
invariant-loop-location g l =
    map hint_view l.found ++ map hint (scouted_among (g.C.Checks.is_found l.log) l.self.hints l.team l.slot (checks_at l.team l.slot (drop l.location-index l.locations)))
    ≡ map hint (scouted_among (g.C.Checks.is_found l.log) l.self.hints l.team l.slot (checks_at l.team l.slot l.locations))
