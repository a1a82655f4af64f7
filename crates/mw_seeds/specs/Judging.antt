-- Whether a seed file is right for a joint, or why it isn't.
use Rattle.std.specs.Prelude.{List, Err, ⊤}
use Rattle.mw_model.specs.Seed.{Seed}
use Rattle.mw_multi.specs.Joint.{Joint}
use Rattle.mw_multi.specs.Placement.{Put, IsPlacement}
use Rattle.mw_reach.specs.Required.{IsBeatable}
use Rattle.mw_spheres.specs.Spots.{placement_table}
use Rattle.mw_spheres.specs.Spheres.{IsSpheres}
use Rattle.mw_spheres.specs.Check.{IsChecked}
use Rattle.mw_spheres.specs.declared.refusal.CheckRefusal.{CheckRefusal}
use Rattle.mw_spheres.specs.declared.refusal.CheckRefusal.TheVariants as found
use Rattle.mw_seeds.specs.Agreeing.{LinksAgree, TablesAgree, IsFirstDifference}
use Rattle.mw_seeds.specs.SeedFile.{AreLocations}
use Rattle.mw_seeds.specs.declared.refusal.SeedRefusal.{SeedRefusal}
use Rattle.mw_seeds.specs.declared.refusal.SeedRefusal.TheVariants.{OtherLinks, OtherTables, GoalMissed, LocationMissed, Wrong, Missing, Memory}

-- tables and seed file agree, and this is the placement that the file's entries are
pub record IsPlacementIn (joint : Joint) (seed : Seed) (puts : List Put) : Type 0 where
  pub agree : TablesAgree joint seed
  pub placement : IsPlacement joint puts
  pub entries : AreLocations joint puts seed.locations

-- why there is no such placement
abbrev pub IsOther : Joint → Seed → SeedRefusal → Type 0
IsOther joint seed OtherLinks = LinksAgree joint seed → ⊥
IsOther joint seed (OtherTables slot location) = IsFirstDifference joint seed slot location
IsOther joint seed (GoalMissed slot) = ⊥
IsOther joint seed (LocationMissed slot place) = ⊥
IsOther joint seed (Wrong sphere place) = ⊥
IsOther joint seed (Missing sphere place) = ⊥
IsOther joint seed Memory = ⊤

-- this is the file's placement; it can be beaten, and the file's spheres are its spheres
pub record IsRight (joint : Joint) (seed : Seed) (puts : List Put) : Type 0 where
  pub placed : IsPlacementIn joint seed puts
  pub beatable : IsBeatable joint (placement_table joint puts)
  pub spheres : IsSpheres joint puts seed.spheres

-- what the check of the file's spheres finds
abbrev pub IsFound : Joint → Seed → CheckRefusal → Type 0
IsFound joint seed refusal =
    (puts : List Put) × IsPlacementIn joint seed puts
    × IsChecked joint puts seed.spheres (Err refusal)

-- why a seed file isn't right for a joint
abbrev pub IsNotRight : Joint → Seed → SeedRefusal → Type 0
IsNotRight joint seed OtherLinks = LinksAgree joint seed → ⊥
IsNotRight joint seed (OtherTables slot location) = IsFirstDifference joint seed slot location
IsNotRight joint seed (GoalMissed slot) = IsFound joint seed (found.GoalMissed slot)
IsNotRight joint seed (LocationMissed slot place) =
    IsFound joint seed (found.LocationMissed slot place)
IsNotRight joint seed (Wrong sphere place) = IsFound joint seed (found.Wrong sphere place)
IsNotRight joint seed (Missing sphere place) = IsFound joint seed (found.Missing sphere place)
IsNotRight joint seed Memory = ⊤
