-- Spheres: the locations that are reached one after the other with what the locations before them hold.
use Rattle.std.specs.Prelude.{◌≡◌, ◌+◌, ◌++◌, ◌≤◌, ◌&&◌, List, [], ◌∷◌, Bool, filter, flat_map, length, not}
use Rattle.mw_model.specs.Seed.{Spot}
use Rattle.mw_rules.specs.Holds.{Bag, Places}
use Rattle.mw_multi.specs.Joint.{Slot, Joint}
use Rattle.mw_multi.specs.Bags.{start_count}
use Rattle.mw_multi.specs.Placement.{Put}
use Rattle.mw_multi.specs.Steps.{steps_of}
use Rattle.mw_reach.specs.Reach.{Placed, times_in, IsLeast}
use Rattle.mw_reach.specs.Required.{Required}
use Rattle.mw_spheres.specs.Spots.{spot_place, spots_of, is_listed, placement_table, holds_progression, items_at}

-- the starting items, and what stands at these locations
abbrev pub hand_of : Joint → Placed → List Spot → Bag
hand_of joint table spots i =
    start_count joint.slots i + times_in i (items_at joint.slots table spots)

-- the location is in the list of places, holds a progression item, and isn't taken yet
abbrev pub is_due : List Slot → Placed → Places → Places → Spot → Bool
is_due slots table w taken spot =
    (w (spot_place slots spot) && holds_progression table (spot_place slots spot))
    && not (taken (spot_place slots spot))

-- the locations that hold a progression item, are reached with what the earlier ones hold and nothing found on the way,
-- and are no earlier ones
pub record IsSphere (joint : Joint) (table : Placed) (earlier sphere : List Spot) : Type 0 where
  pub reached : Places
  pub least : IsLeast (steps_of joint) (hand_of joint table earlier) [] reached
  pub due : sphere
      ≡ filter (is_due joint.slots table reached (is_listed joint.slots earlier)) (spots_of joint)

-- each is the sphere after those before it and isn't empty, and the one after them all is empty
abbrev pub AreSpheres : Joint → Placed → List Spot → List (List Spot) → Type 0
AreSpheres joint table earlier [] = IsSphere joint table earlier []
AreSpheres joint table earlier (sphere ∷ spheres) =
    IsSphere joint table earlier sphere × (1 ≤ length sphere)
    × AreSpheres joint table (earlier ++ sphere) spheres

-- the spheres of a placement
abbrev pub IsSpheres : Joint → List Put → List (List Spot) → Type 0
IsSpheres joint puts spheres = AreSpheres joint (placement_table joint puts) [] spheres

-- the locations of all spheres
abbrev pub listed : List (List Spot) → List Spot
listed spheres = flat_map (λ sphere. sphere) spheres

-- all is as required in the least list for the starting items and what stands at these locations,
-- with nothing found on the way
pub record ShowsRequired (joint : Joint) (table : Placed) (spots : List Spot) : Type 0 where
  pub reached : Places
  pub least : IsLeast (steps_of joint) (hand_of joint table spots) [] reached
  pub required : Required joint (hand_of joint table spots) reached

-- the same of all locations in spheres of a placement
abbrev pub Shows : Joint → List Put → List (List Spot) → Type 0
Shows joint puts spheres = ShowsRequired joint (placement_table joint puts) (listed spheres)
