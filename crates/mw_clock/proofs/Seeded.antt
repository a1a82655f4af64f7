-- What `generate` makes of the joint.
use Rattle.std.proofs.Common.{◌≡◌, ℕ, List, [], ◌∷◌, Ok, refl, sym, ap₂, ◌∙◌, subst}
use Rattle.mw_rules.specs.Rule.{Rule}
use Rattle.mw_multi.specs.World.{World}
use Rattle.mw_multi.specs.Players.{Players}
use Rattle.mw_multi.specs.Joint.{Joint}
use Rattle.mw_multi.specs.JointOf.{joint_of}
use Rattle.mw_multi.specs.Steps.{rule_list}
use Rattle.mw_fill.specs.Generated.{IsRefused}
use Rattle.mw_fill.specs.declared.seed.GenerateError.{GenerateError}
use Rattle.mw_fill.specs.declared.seed.GenerateError.TheVariants as refused
use Rattle.mw_seeds.specs.Made.{Generates}
use Rattle.mw_causes.specs.GenerateCauses.{generate_stop}
use Rattle.mw_clock.specs.Clockwork.{IsSize, clockwork, clock_rules, players}
use Rattle.mw_clock.specs.Seeds.{IsClockSeed, IsSeedless}
use Rattle.mw_clock.proofs.Joints.{clock_joint, joined, joint_rules}
use Rattle.mw_clock.proofs.Unrefused.{beatable, full, roomy}

-- the tables are joined to the joint
pub joint_is : (gears : ℕ) (file : List ℕ) (worlds : List World) (played : Players) (joint : Joint) → IsSize gears → worlds ≡ clockwork gears ∷ [] → played ≡ players file → joint_of worlds played ≡ Ok joint
    → joint ≡ clock_joint gears
joint_is gears file worlds played joint size worlds_are players_are built =
    let is : Ok joint ≡ Ok (clock_joint gears) = sym built ∙ ap₂ joint_of worlds_are players_are ∙ joined gears size file in
    cc

-- who answers the world's rules answers the joint's
pub stands_for_joint : (Stands : List Rule → Type 0) (gears : ℕ) (joint : Joint) → joint ≡ clock_joint gears → Stands (clock_rules gears) → Stands (rule_list joint)
stands_for_joint Stands gears joint is stands = subst (λ (j : Joint). Stands (rule_list j)) (sym is) (subst Stands (sym (joint_rules gears)) stands)

-- it is a seed
pub clock_seed : (gears seed : ℕ) (joint : Joint) (bytes text : List ℕ) → IsSize gears → joint ≡ clock_joint gears → Generates joint seed 100 bytes text → IsClockSeed gears seed bytes text
clock_seed gears seed joint bytes text size is made = record { joint = clock_joint gears; is_joint = joined gears size; made = subst (λ j. Generates j seed 100 bytes text) is made }

seedless_by : (gears seed : ℕ) (error : GenerateError) → IsSize gears → IsRefused (clock_joint gears) seed 100 error → IsSeedless gears seed (generate_stop 100 error)
seedless_by gears seed (refused.NotBeatable slot) size h = absurd (beatable gears seed 100 slot size h)
seedless_by gears seed (refused.NotFull slot place) size h = absurd (full gears seed 100 slot place size h)
seedless_by gears seed (refused.TooManyItems have room) size h = absurd (roomy gears seed 100 have room size h)
seedless_by gears seed refused.Exhausted size h = (refl, record { joint = clock_joint gears; is_joint = joined gears size; is = h })
seedless_by gears seed refused.Memory size h = tt

-- or there is none
pub seedless : (gears seed : ℕ) (joint : Joint) (error : GenerateError) → IsSize gears → joint ≡ clock_joint gears → IsRefused joint seed 100 error → IsSeedless gears seed (generate_stop 100 error)
seedless gears seed joint error size is h = seedless_by gears seed error size (subst (λ j. IsRefused j seed 100 error) is h)
