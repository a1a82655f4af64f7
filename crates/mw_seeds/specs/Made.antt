-- What `generate` makes of a joint: the seed file, and the text that is printed beside it.
use Rattle.std.specs.Prelude.{◌≡◌, ◌++◌, ℕ, List, codes, decimal, length}
use Rattle.mw_model.specs.Seed.{Seed, Spot}
use Rattle.mw_multi.specs.Joint.{Joint, IsJoint}
use Rattle.mw_multi.specs.Placement.{Put, what_stands}
use Rattle.mw_multidata.specs.Written.{seed_text}
use Rattle.mw_reach.specs.Required.{IsBeatable}
use Rattle.mw_fill.specs.Generated.{CanBeTried, IsFirst}
use Rattle.mw_spheres.specs.Spots.{placement_table}
use Rattle.mw_spheres.specs.Spheres.{IsSpheres, Shows}
use Rattle.mw_spheres.specs.Playthrough.{IsPlaythrough, NoneToSpare}
use Rattle.mw_seeds.specs.SeedFile.{SeedFile}
use Rattle.mw_seeds.specs.Played.{played_lines}

-- the first line, of a seed's number, of the try and of how many spheres there are
abbrev pub generated_line : ℕ → ℕ → ℕ → List ℕ
generated_line seed stream spheres =
    codes "seed " ++ decimal seed ++ codes " try " ++ decimal stream ++ codes " spheres "
    ++ decimal spheres ++ codes "\n"

-- the placement can be beaten, as its spheres show, which the file has; the text has its
-- playthrough, of which no entry can be left out
pub record IsMade (joint : Joint) (seed stream : ℕ) (placement : List Put) (bytes text : List ℕ)
    : Type 0 where
  pub kept : IsJoint joint
  pub beatable : IsBeatable joint (placement_table joint placement)
  pub spheres : List (List Spot)
  pub are_spheres : IsSpheres joint placement spheres
  pub shows : Shows joint placement spheres
  pub played : List (List Spot)
  pub is_playthrough : IsPlaythrough joint placement spheres played
  pub needed : NoneToSpare joint placement played
  pub file : Seed
  pub is_file : SeedFile joint seed placement spheres file
  pub written : bytes ≡ seed_text file
  pub printed : text ≡ generated_line seed stream (length spheres)
      ++ played_lines joint (what_stands placement) 1 played

-- each goal holds with everything in hand, there is room for all copies, and it is made of the
-- first try's placement
pub record Generates (joint : Joint) (seed tries : ℕ) (bytes text : List ℕ) : Type 0 where
  pub can : CanBeTried joint
  pub stream : ℕ
  pub placement : List Put
  pub first : IsFirst joint seed tries stream placement
  pub made : IsMade joint seed stream placement bytes text
