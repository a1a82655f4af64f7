use Rattle.std.proofs.Common.{◌≡◌, ℕ, ◌&&◌, not, take}
use Rattle.mw_rules.specs.Holds.{places_of}
use Rattle.mw_rules.specs.Names.{is_among}
use Rattle.mw_spheres.proofs.shown.show_none.Given as goal

abbrev pub invariant-loop-place : goal.invariant-loop-place
invariant-loop-place l = (p : ℕ) → places_of l.shown p ≡ (places_of l.fn.shown p && not (is_among (take l.place-index l.places) p))
