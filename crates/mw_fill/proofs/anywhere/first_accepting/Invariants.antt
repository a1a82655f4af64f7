use Rattle.std.proofs.Common.{◌≡◌, drop}
use Rattle.std.specs.Prelude.{find}
use Rattle.mw_fill.specs.Openings.{accepts}
use Rattle.mw_fill.specs.Kept.{is_open_in}
use Rattle.mw_fill.proofs.anywhere.first_accepting.Given as goal

-- the locations that are left decide
abbrev pub invariant-loop-opening : goal.invariant-loop-opening
invariant-loop-opening l = find (is_open_in (accepts l.copy) l.held) l.openings ≡ find (is_open_in (accepts l.copy) l.held) (drop l.opening-index (drop l.from l.openings))
