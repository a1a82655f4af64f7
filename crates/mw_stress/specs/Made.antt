-- The seed that `stress` plays.
use Rattle.std.specs.Prelude.{◌≡◌, ℕ, List, [], ◌∷◌, Ok, length, ⊤}
use Rattle.mw_model.specs.Seed.{Seed, Spot}
use Rattle.mw_multi.specs.Joint.{Joint}
use Rattle.mw_multi.specs.JointOf.{joint_of}
use Rattle.mw_multi.specs.Placement.{Put}
use Rattle.mw_fill.specs.Generated.{CanBeTried, IsFirst, AreStuck}
use Rattle.mw_spheres.specs.Spheres.{IsSpheres}
use Rattle.mw_seeds.specs.SeedFile.{SeedFile}
use Rattle.mw_stress.specs.Stress.{IsCrowd, world, players}
use Rattle.mw_stress.specs.declared.seed.StressError.{StressError}
use Rattle.mw_stress.specs.declared.seed.StressError.TheVariants.{Exhausted, Memory}

-- the joint of the world and so many players
abbrev pub IsStressJoint : ℕ → Joint → Type 0
IsStressJoint many joint = joint_of (world ∷ []) (players many) ≡ Ok joint

-- each crowd has one
abbrev pub PlayersJoin : Type 0
PlayersJoin = (many : ℕ) → IsCrowd many → (joint : Joint) × IsStressJoint many joint

-- the first of a hundred tries that gives a placement, how many spheres this has, and the seed that
-- is made of them
pub record IsStressSeed (many seed stream spheres : ℕ) (file : Seed) : Type 0 where
  pub joint : Joint
  pub is_joint : IsStressJoint many joint
  pub can : CanBeTried joint
  pub placement : List Put
  pub first : IsFirst joint seed 100 stream placement
  pub listed : List (List Spot)
  pub are_spheres : IsSpheres joint placement listed
  pub how_many : spheres ≡ length listed
  pub is_file : SeedFile joint seed placement listed file

-- each of a hundred tries is stuck
pub record IsExhausted (many seed : ℕ) : Type 0 where
  pub joint : Joint
  pub is_joint : IsStressJoint many joint
  pub can : CanBeTried joint
  pub stuck : AreStuck joint seed 100

-- why no seed is made; nothing else comes
abbrev pub IsUnmade : ℕ → ℕ → StressError → Type 0
IsUnmade many seed Exhausted = IsExhausted many seed
IsUnmade many seed Memory = ⊤
