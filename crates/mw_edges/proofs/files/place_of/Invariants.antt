use Rattle.std.proofs.Common.{◌≡◌, ◌+◌, drop}
use Rattle.mw_edges.specs.Places.{place_in}
use Rattle.mw_edges.proofs.files.place_of.Given as goal

-- it isn't among those that are done
abbrev pub invariant-loop-i : goal.invariant-loop-i
invariant-loop-i g l = place_in l.entries l.name ≡ l.i + place_in (drop l.i l.entries) l.name
