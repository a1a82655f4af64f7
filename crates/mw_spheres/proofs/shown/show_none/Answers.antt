use Rattle.std.proofs.Common.{arith}
use Rattle.mw_spheres.proofs.Revealing.{cleared_more}
use Rattle.mw_spheres.proofs.shown.show_none.Goals as goal

pub loop-place-preserved : goal.loop-place-preserved
loop-place-preserved c =
    cleared_more c.args.places.now c.loop-place.place-index c.loop-place.shown c.args.shown.now c.loop-place-test.true (omega (arith, c.requires.within c.loop-place.place-index 0 c.loop-place-test.true)) c.loop-place.invariant
