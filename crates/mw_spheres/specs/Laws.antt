-- What is true of spheres and playthroughs.
use Rattle.std.specs.Prelude.{◌≡◌, List}
use Rattle.mw_model.specs.Seed.{Spot}
use Rattle.mw_multi.specs.Joint.{Joint, IsJoint}
use Rattle.mw_multi.specs.Placement.{Put, IsPlacement}
use Rattle.mw_reach.specs.Required.{IsBeatable}
use Rattle.mw_spheres.specs.Spots.{placement_table}
use Rattle.mw_spheres.specs.Spheres.{IsSpheres, Shows}
use Rattle.mw_spheres.specs.Playthrough.{IsPlaythrough}

-- a placement has one list of spheres
abbrev pub SpheresAreOne : Type 0
SpheresAreOne =
    (joint : Joint) (puts : List Put) (a b : List (List Spot)) → IsSpheres joint puts a
    → IsSpheres joint puts b → a ≡ b

-- the spheres of a placement that can be beaten show it
abbrev pub SpheresShow : Type 0
SpheresShow =
    (joint : Joint) (puts : List Put) (spheres : List (List Spot)) → IsJoint joint
    → IsPlacement joint puts → IsBeatable joint (placement_table joint puts)
    → IsSpheres joint puts spheres → Shows joint puts spheres

-- a placement with its spheres has one playthrough
abbrev pub PlaythroughsAreOne : Type 0
PlaythroughsAreOne =
    (joint : Joint) (puts : List Put) (spheres a b : List (List Spot))
    → IsPlaythrough joint puts spheres a → IsPlaythrough joint puts spheres b → a ≡ b
