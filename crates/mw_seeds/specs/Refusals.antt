-- What the check of spheres finds, as a refusal of a seed file.
use Rattle.mw_spheres.specs.declared.refusal.CheckRefusal.{CheckRefusal}
use Rattle.mw_spheres.specs.declared.refusal.CheckRefusal.TheVariants as found
use Rattle.mw_seeds.specs.declared.refusal.SeedRefusal.{SeedRefusal}
use Rattle.mw_seeds.specs.declared.refusal.SeedRefusal.TheVariants.{GoalMissed, LocationMissed, Wrong, Missing, Memory}

abbrev pub refusal_of : CheckRefusal → SeedRefusal
refusal_of (found.GoalMissed slot) = GoalMissed slot
refusal_of (found.LocationMissed slot place) = LocationMissed slot place
refusal_of (found.Wrong sphere place) = Wrong sphere place
refusal_of (found.Missing sphere place) = Missing sphere place
refusal_of found.Memory = Memory
