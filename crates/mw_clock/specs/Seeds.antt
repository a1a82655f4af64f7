-- What `generate` writes and prints, and how it ends.
use Rattle.std.specs.Prelude.{◌≡◌, ◌⊎◌, ℕ, List, [], ◌∷◌, Option, Ok, ⊤}
use Rattle.std.specs.Io.KnownBytes.{Keeps, Appends}
use Rattle.mw_edges.specs.Causes.{PutsFront, Rose}
use Rattle.mw_multi.specs.Joint.{Joint}
use Rattle.mw_multi.specs.JointOf.{joint_of}
use Rattle.mw_fill.specs.Generated.{IsRefused}
use Rattle.mw_fill.specs.declared.seed.GenerateError.TheVariants as refused
use Rattle.mw_seeds.specs.Made.{Generates}
use Rattle.mw_causes.specs.GenerateCauses.{generate_status, generate_line}
use Rattle.mw_causes.specs.Ends.{Told, Ends}
use Rattle.mw_causes.specs.Wrote.{Wrote, SameBut, Untouched, HasFile, HasFailed}
use Rattle.mw_causes.specs.declared.stop.Stop.{Stop}
use Rattle.mw_causes.specs.declared.stop.Stop.TheVariants.{Fault, Memory, Refused}
use Rattle.mw_causes.specs.declared.generate_cause.GenerateCause.{GenerateCause}
use Rattle.mw_causes.specs.declared.generate_cause.GenerateCause.TheVariants.{Tables, NotBeatable, NotFull, TooManyItems, Exhausted}
use Rattle.mw_clock.specs.Clockwork.{clockwork, players}
use Rattle.mw_clock.specs.Words.{SeedWords}

-- ---- the seed

-- the joint of the world and its player, whatever the world's file is called
abbrev pub IsClockJoint : ℕ → Joint → Type 0
IsClockJoint gears joint =
    (file : List ℕ) → joint_of (clockwork gears ∷ []) (players file) ≡ Ok joint

-- the seed file and the text that a hundred tries make of that joint's tables
pub record IsClockSeed (gears seed : ℕ) (bytes text : List ℕ) : Type 0 where
  pub joint : Joint
  pub is_joint : IsClockJoint gears joint
  pub made : Generates joint seed 100 bytes text

-- each of a hundred tries is stuck
pub record IsStuck (gears seed : ℕ) : Type 0 where
  pub joint : Joint
  pub is_joint : IsClockJoint gears joint
  pub is : IsRefused joint seed 100 refused.Exhausted

-- why there is no seed: each try is stuck, or memory ran out; nothing else comes
abbrev pub IsSeedless : ℕ → ℕ → Stop GenerateCause → Type 0
IsSeedless gears seed Fault = ⊥
IsSeedless gears seed Memory = ⊤
IsSeedless gears seed (Refused (Tables cause)) = ⊥
IsSeedless gears seed (Refused (NotBeatable slot)) = ⊥
IsSeedless gears seed (Refused (NotFull slot place)) = ⊥
IsSeedless gears seed (Refused (TooManyItems have room)) = ⊥
IsSeedless gears seed (Refused (Exhausted tries)) = (tries ≡ 100) × IsStuck gears seed

-- ---- ends

-- the due seed file is written and a front of the text is put; or the write was refused, and
-- nothing is put
pub record WritesSomeSeed (wrote : Wrote) (wanted : SeedWords)
    (old new : Option (List ℕ)) : Type 0 where
  pub bytes : List ℕ
  pub text : List ℕ
  pub made : IsClockSeed wanted.gears wanted.seed bytes text
  pub others : SameBut wanted.out_name wrote.before wrote.after
  pub left : (HasFile wrote wanted.out_name bytes × PutsFront old new text)
      ⊎ (Rose wrote.refused_before wrote.refused_after × Keeps old new)

-- the seed file was written, and just the text was put
pub record IsSeedWritten (wrote : Wrote) (wanted : SeedWords)
    (old new : Option (List ℕ)) : Type 0 where
  pub bytes : List ℕ
  pub text : List ℕ
  pub made : IsClockSeed wanted.gears wanted.seed bytes text
  pub others : SameBut wanted.out_name wrote.before wrote.after
  pub written : HasFile wrote wanted.out_name bytes
  pub put : Appends old new text

-- how `generate` ended with a status, with what the out sink held and how often it failed
abbrev pub SeedEnds : ℕ → Wrote → SeedWords → Told → Told → Type 0
SeedEnds status wrote wanted out told =
    Ends generate_status generate_line (IsSeedless wanted.gears wanted.seed)
    (Untouched wrote out.old out.new) (WritesSomeSeed wrote wanted out.old out.new)
    (HasFailed wrote out) (IsSeedWritten wrote wanted out.old out.new) status told
