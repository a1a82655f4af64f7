-- What is made of the joint.
use Rattle.std.proofs.Common.{◌≡◌, ◌∙◌, ℕ, List, [], ◌∷◌, Ok, Err, length, refl, sym, subst, ap₂}
use Rattle.mw_model.specs.Seed.{Seed, Spot}
use Rattle.mw_multi.specs.World.{World}
use Rattle.mw_multi.specs.Players.{Players}
use Rattle.mw_multi.specs.Joint.{Joint}
use Rattle.mw_multi.specs.JointOf.{Gives, joint_of}
use Rattle.mw_multi.specs.declared.refusal.JointRefusal.{JointRefusal}
use Rattle.mw_multi.specs.declared.refusal.JointRefusal.TheVariants.{GameTwice, UnknownName, LinkGame, LinkName, TooManyPlaces, TooMuchText, Memory}
use Rattle.mw_multi.specs.Placement.{Put}
use Rattle.mw_fill.specs.Generated.{CanBeTried, IsFirst, AreStuck, IsRefused}
use Rattle.mw_fill.specs.declared.seed.GenerateError.TheVariants.{NotBeatable, NotFull, TooManyItems}
use Rattle.mw_spheres.specs.Spheres.{IsSpheres}
use Rattle.mw_seeds.specs.SeedFile.{SeedFile}
use Rattle.mw_stress.specs.Made.{IsStressJoint, IsStressSeed, IsExhausted}
use Rattle.mw_stress.specs.Stress as plain
use Rattle.mw_stress.specs.Stress.{IsCrowd}
use Rattle.mw_stress.proofs.Joints.{joined, stress_joint}
use Rattle.mw_stress.proofs.Unrefused.{beatable, full, roomy}

module _ (many seed : ℕ) (worlds : List World) (played : Players) (joint : Joint) (worlds_are : worlds ≡ plain.world ∷ []) (played_are : played ≡ plain.players many) (built : joint_of worlds played ≡ Ok joint) where
  is_joint : IsStressJoint many joint
  is_joint = sym (ap₂ joint_of worlds_are played_are) ∙ built

  pub made_so : (stream spheres : ℕ) (placement : List Put) (file : Seed) (s_stream : ℕ) → CanBeTried joint × IsFirst joint seed 100 stream placement → s_stream ≡ stream
      → (listed : List (List Spot)) × IsSpheres joint placement listed × (spheres ≡ length listed) × SeedFile joint seed placement listed file
      → IsStressSeed many seed s_stream spheres file
  made_so stream spheres placement file s_stream generated same made = record {
    joint = joint;
    is_joint = is_joint;
    can = generated.0;
    placement = placement;
    first = subst (λ n. IsFirst joint seed 100 n placement) (sym same) generated.1;
    listed = made.0;
    are_spheres = made.1;
    how_many = made.2;
    is_file = made.3;
  }

  pub stuck_so : CanBeTried joint × AreStuck joint seed 100 → IsExhausted many seed
  stuck_so refused = record { joint = joint; is_joint = is_joint; can = refused.0; stuck = refused.1 }

  module _ (crowd : IsCrowd many) where
    joint_so : joint ≡ stress_joint many
    joint_so = let same : Ok joint ≡ Ok (stress_joint many) = sym is_joint ∙ joined many crowd in cc

    -- nothing else comes
    pub always_beatable : (slot : ℕ) → IsRefused joint seed 100 (NotBeatable slot) → ⊥
    always_beatable slot refused = beatable many seed slot (subst (λ j. IsRefused j seed 100 (NotBeatable slot)) joint_so refused)

    pub always_full : (slot place : ℕ) → IsRefused joint seed 100 (NotFull slot place) → ⊥
    always_full slot place refused = full many seed slot place (subst (λ j. IsRefused j seed 100 (NotFull slot place)) joint_so refused)

    pub always_roomy : (have room : ℕ) → IsRefused joint seed 100 (TooManyItems have room) → ⊥
    always_roomy have room refused = roomy many seed have room (subst (λ j. IsRefused j seed 100 (TooManyItems have room)) joint_so refused)

-- a refusal of the tables is want of memory, for they can be joined
module _ (many : ℕ) (worlds : List World) (played : Players) (worlds_are : worlds ≡ plain.world ∷ []) (played_are : played ≡ plain.players many) (crowd : IsCrowd many) where
  never : (refusal : JointRefusal) → joint_of worlds played ≡ Err refusal → ⊥
  never refusal is = let same : Ok (stress_joint many) ≡ Err refusal = sym (joined many crowd) ∙ sym (ap₂ joint_of worlds_are played_are) ∙ is in cc

  pub only_memory : (refusal : JointRefusal) → Gives (Err refusal) (joint_of worlds played) → refusal ≡ Memory
  only_memory Memory gives = refl
  only_memory (GameTwice index) gives = absurd (never (GameTwice index) (gives (λ e. cc)))
  only_memory (UnknownName slot option index) gives = absurd (never (UnknownName slot option index) (gives (λ e. cc)))
  only_memory (LinkGame link) gives = absurd (never (LinkGame link) (gives (λ e. cc)))
  only_memory (LinkName link index) gives = absurd (never (LinkName link index) (gives (λ e. cc)))
  only_memory (TooManyPlaces have) gives = absurd (never (TooManyPlaces have) (gives (λ e. cc)))
  only_memory (TooMuchText have) gives = absurd (never (TooMuchText have) (gives (λ e. cc)))
