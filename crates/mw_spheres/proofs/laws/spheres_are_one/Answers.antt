use Rattle.mw_spheres.proofs.OneList.{spheres_are_one}
use Rattle.mw_spheres.proofs.laws.spheres_are_one.Goals as goal

pub returns : goal.returns
returns c = spheres_are_one
