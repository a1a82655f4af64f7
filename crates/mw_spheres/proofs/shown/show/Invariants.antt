use Rattle.std.proofs.Common.{◌≡◌, ℕ, take}
use Rattle.std.specs.Prelude.{if◌then◌else◌}
use Rattle.mw_rules.specs.Holds.{places_of}
use Rattle.mw_rules.specs.Names.{is_among}
use Rattle.mw_spheres.proofs.shown.show.Given as goal

abbrev pub invariant-loop-place : goal.invariant-loop-place
invariant-loop-place l = (p : ℕ) → places_of l.shown p ≡ (if is_among (take l.place-index l.places) p then places_of l.kept p else places_of l.fn.shown p)
