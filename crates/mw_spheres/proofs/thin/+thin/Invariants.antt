use Rattle.std.proofs.Common.{length}
use Rattle.mw_spheres.proofs.thin.+thin.Given as goal

abbrev pub decreases-thin : goal.decreases-thin
decreases-thin l = length l.places.now
