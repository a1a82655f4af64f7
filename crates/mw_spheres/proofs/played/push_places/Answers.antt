use Rattle.mw_spheres.specs.Spots.{IsSpot}
use Rattle.mw_spheres.proofs.Locations.{all_at}
use Rattle.mw_spheres.proofs.played.push_places.Goals as goal

pub place_of-requires : goal.place_of-requires
place_of-requires c = all_at (IsSpot c.args.joint.now.slots) c.args.sphere.now c.loop-spot.spot-index c.spot-item.result c.requires c.loop-spot-test.true c.spot-item.is
