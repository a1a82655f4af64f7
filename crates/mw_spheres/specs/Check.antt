-- What the check of claimed spheres finds.
use Rattle.std.specs.Prelude.{◌≡◌, ℕ, suc, ◌==◌, ◌&&◌, List, [], ◌∷◌, Bool, Result, Ok, Err, None, Some, if◌then◌else◌}
use Rattle.mw_model.specs.Seed.{Spot}
use Rattle.mw_multi.specs.Joint.{Joint}
use Rattle.mw_multi.specs.Placement.{Put}
use Rattle.mw_spheres.specs.Spots.{placement_table}
use Rattle.mw_spheres.specs.Spheres.{IsSpheres}
use Rattle.mw_reach.specs.declared.lack.Lack.{Lack}
use Rattle.mw_reach.specs.declared.lack.Lack.TheVariants.{Goal, Location as Spotted}
use Rattle.mw_spheres.specs.Lacking.{IsFirstLack}
use Rattle.mw_spheres.specs.declared.refusal.CheckRefusal.{CheckRefusal}
use Rattle.mw_spheres.specs.declared.refusal.CheckRefusal.TheVariants.{GoalMissed, LocationMissed, Wrong, Missing, Memory}

-- nothing to refuse, or the first refusal
abbrev pub Check : Type 0
Check = Result (Unit {0}) CheckRefusal

abbrev pub or_later : Check → Check → Check
or_later (Ok done) later = later
or_later (Err e) later = Err e

abbrev pub same_spot : Spot → Spot → Bool
same_spot a b = (a.slot == b.slot) && (a.index == b.index)

-- place by place: a claimed one that isn't the one due there, or a due one that isn't claimed
abbrev pub compare_places : ℕ → List Spot → List Spot → Check
compare_places sphere [] [] = Ok tt
compare_places sphere [] (d ∷ due) = Err (Missing sphere d)
compare_places sphere (c ∷ claimed) [] = Err (Wrong sphere c)
compare_places sphere (c ∷ claimed) (d ∷ due) =
    if same_spot c d then compare_places sphere claimed due else Err (Wrong sphere c)

-- the first sphere, and the later ones; past the end stands an empty one
abbrev pub first_sphere : List (List Spot) → List Spot
first_sphere [] = []
first_sphere (s ∷ spheres) = s

abbrev pub later_spheres : List (List Spot) → List (List Spot)
later_spheres [] = []
later_spheres (s ∷ spheres) = spheres

-- sphere by sphere, the first of which has this number
abbrev pub compare_spheres : ℕ → List (List Spot) → List (List Spot) → Check
compare_spheres sphere [] due = compare_places sphere [] (first_sphere due)
compare_spheres sphere (c ∷ claimed) due =
    or_later (compare_places sphere c (first_sphere due))
    (compare_spheres (suc sphere) claimed (later_spheres due))

-- a goal or a location that is missed
abbrev pub refused_for : Lack → CheckRefusal
refused_for (Goal slot) = GoalMissed slot
refused_for (Spotted slot place) = LocationMissed slot place

-- nothing is lacking, and this is found where the claimed spheres are compared with those of the
-- placement
pub record Compares (joint : Joint) (puts : List Put) (claimed : List (List Spot))
    (found : Check) : Type 0 where
  pub nothing : IsFirstLack joint (placement_table joint puts) None
  pub due : List (List Spot)
  pub spheres : IsSpheres joint puts due
  pub is : found ≡ compare_spheres 0 claimed due

-- what the check finds, unless memory ran out
abbrev pub IsChecked : Joint → List Put → List (List Spot) → Check → Type 0
IsChecked joint puts claimed (Ok done) = Compares joint puts claimed (Ok done)
IsChecked joint puts claimed (Err (GoalMissed slot)) =
    IsFirstLack joint (placement_table joint puts) (Some (Goal slot))
IsChecked joint puts claimed (Err (LocationMissed slot place)) =
    IsFirstLack joint (placement_table joint puts) (Some (Spotted slot place))
IsChecked joint puts claimed (Err (Wrong sphere place)) =
    Compares joint puts claimed (Err (Wrong sphere place))
IsChecked joint puts claimed (Err (Missing sphere place)) =
    Compares joint puts claimed (Err (Missing sphere place))
IsChecked joint puts claimed (Err Memory) = Unit {0}
