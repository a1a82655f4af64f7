-- What is found of a seed file.
use Rattle.std.proofs.Common.{◌≡◌, List, Ok, sym, subst}
use Rattle.std.specs.Prelude.{OnOk}
use Rattle.mw_model.specs.Seed.{Seed, Spot}
use Rattle.mw_multi.specs.Joint.{Joint}
use Rattle.mw_multi.specs.Placement.{Put}
use Rattle.mw_reach.proofs.Requiring.{beatable_by_least}
use Rattle.mw_spheres.specs.Spots.{placement_table}
use Rattle.mw_spheres.specs.Spheres.{IsSpheres}
use Rattle.mw_spheres.specs.Check.{Check, IsChecked}
use Rattle.mw_spheres.specs.declared.refusal.CheckRefusal.{CheckRefusal}
use Rattle.mw_spheres.specs.declared.refusal.CheckRefusal.TheVariants as found
use Rattle.mw_seeds.specs.Refusals.{refusal_of}
use Rattle.mw_seeds.specs.Judging.{IsPlacementIn, IsOther, IsRight, IsFound, IsNotRight}
use Rattle.mw_seeds.specs.declared.refusal.SeedRefusal.{SeedRefusal}
use Rattle.mw_seeds.specs.declared.refusal.SeedRefusal.TheVariants.{OtherLinks, OtherTables, GoalMissed, LocationMissed, Wrong, Missing, Memory}

-- a file of other tables isn't right
pub not_placed : (joint : Joint) (seed : Seed) (refusal : SeedRefusal) → IsOther joint seed refusal → IsNotRight joint seed refusal
not_placed joint seed OtherLinks h = h
not_placed joint seed (OtherTables slot location) h = h
not_placed joint seed (GoalMissed slot) h = absurd h
not_placed joint seed (LocationMissed slot place) h = absurd h
not_placed joint seed (Wrong sphere place) h = absurd h
not_placed joint seed (Missing sphere place) h = absurd h
not_placed joint seed Memory h = tt

found_so : (joint : Joint) (seed : Seed) (refusal : CheckRefusal) → IsFound joint seed refusal → IsNotRight joint seed (refusal_of refusal)
found_so joint seed (found.GoalMissed slot) h = h
found_so joint seed (found.LocationMissed slot place) h = h
found_so joint seed (found.Wrong sphere place) h = h
found_so joint seed (found.Missing sphere place) h = h
found_so joint seed found.Memory h = tt

-- nor is one of which the check of spheres finds something
pub not_right : (joint : Joint) (seed : Seed) (refusal : CheckRefusal) (named : SeedRefusal) → IsFound joint seed refusal → named ≡ refusal_of refusal → IsNotRight joint seed named
not_right joint seed refusal named h is = subst (IsNotRight joint seed) (sym is) (found_so joint seed refusal h)

right_by : (joint : Joint) (seed : Seed) (puts : List Put) → IsPlacementIn joint seed puts → IsChecked joint puts seed.spheres (Ok tt) → IsSpheres joint puts seed.spheres → IsRight joint seed puts
right_by joint seed puts placed checked spheres = record {
  placed = placed;
  beatable = beatable_by_least joint (placement_table joint puts) checked.nothing.reached checked.nothing.least (sym checked.nothing.is);
  spheres = spheres;
}

-- a placement whose spheres are those of the file makes it right
pub right_for : (joint : Joint) (seed : Seed) (puts : List Put) (spheres : List (List Spot)) (found : Check) → spheres ≡ seed.spheres → IsPlacementIn joint seed puts → found ≡ Ok tt → IsChecked joint puts spheres found
    → OnOk found (IsSpheres joint puts spheres) → IsRight joint seed puts
right_for joint seed puts spheres found same placed ok checked are =
    right_by joint seed puts placed (subst (λ ss. IsChecked joint puts ss (Ok tt)) same (subst (IsChecked joint puts spheres) ok checked)) (subst (IsSpheres joint puts) same (subst (λ f. OnOk f (IsSpheres joint puts spheres)) ok are))
