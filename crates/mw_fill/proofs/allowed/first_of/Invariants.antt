use Rattle.std.proofs.Common.{◌≡◌, drop}
use Rattle.std.specs.Prelude.{find}
use Rattle.mw_reach.specs.Reached.{places_in}
use Rattle.mw_fill.specs.Fill.{is_allowed_if}
use Rattle.mw_fill.specs.Kept.{is_open_in}
use Rattle.mw_fill.proofs.allowed.first_of.Given as goal

-- the locations that are left decide
abbrev pub invariant-loop-opening : goal.invariant-loop-opening
invariant-loop-opening l =
    find (is_open_in (is_allowed_if l.joint l.missed (places_in l.reached) l.copy) l.held) l.openings ≡ find (is_open_in (is_allowed_if l.joint l.missed (places_in l.reached) l.copy) l.held) (drop l.opening-index l.openings)
