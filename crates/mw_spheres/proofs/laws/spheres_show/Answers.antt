use Rattle.mw_spheres.proofs.Showing.{spheres_show}
use Rattle.mw_spheres.proofs.laws.spheres_show.Goals as goal

pub returns : goal.returns
returns c = spheres_show
