use Rattle.std.proofs.Common.{◌≡◌, ℕ, ◌||◌, take}
use Rattle.mw_rules.specs.Holds.{places_of}
use Rattle.mw_rules.specs.Names.{is_among}
use Rattle.mw_spheres.proofs.thin.mark.Given as goal

abbrev pub invariant-loop-place : goal.invariant-loop-place
invariant-loop-place l = (p : ℕ) → places_of l.kept p ≡ (places_of l.fn.kept p || is_among (take l.place-index l.places) p)
