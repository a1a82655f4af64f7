use Rattle.std.proofs.Common.{All, sym, subst}
use Rattle.mw_spheres.specs.Spots.{IsSpot}
use Rattle.mw_spheres.proofs.Locations.{all_at}
use Rattle.mw_spheres.proofs.played.kept_spheres.Goals as goal

pub kept_in-requires : goal.kept_in-requires
kept_in-requires c =
    let spots = all_at (All (IsSpot c.args.joint.now.slots)) c.args.spheres.now c.loop-sphere.sphere-index c.sphere-item.result c.requires c.loop-sphere-test.true c.sphere-item.is in
    subst (All (IsSpot c.args.joint.now.slots)) (sym c.as_slice.ensures) spots
