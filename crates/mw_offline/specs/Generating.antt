-- What `generate` writes and prints, and how it ends.
use Rattle.std.specs.Prelude.{◌≡◌, ◌⊎◌, ℕ, List, Option, Bool, ⊤}
use Rattle.std.specs.Io.KnownBytes.{Keeps, Appends}
use Rattle.mw_edges.specs.Causes.{PutsFront, Rose}
use Rattle.mw_multi.specs.Joint.{Joint}
use Rattle.mw_fill.specs.Generated.{IsRefused}
use Rattle.mw_fill.specs.declared.seed.GenerateError.{GenerateError}
use Rattle.mw_fill.specs.declared.seed.GenerateError.TheVariants as refused
use Rattle.mw_seeds.specs.Made.{Generates}
use Rattle.mw_causes.specs.GenerateCauses.{generate_status, generate_line}
use Rattle.mw_causes.specs.Ends.{Told, Ends}
use Rattle.mw_causes.specs.Tables.{Files, JointIn, HasTableCause}
use Rattle.mw_causes.specs.Wrote.{Wrote, SameBut, Untouched, HasFile, HasFailed}
use Rattle.mw_causes.specs.declared.stop.Stop.{Stop}
use Rattle.mw_causes.specs.declared.stop.Stop.TheVariants.{Fault, Memory, Refused}
use Rattle.mw_causes.specs.declared.table_cause.TableCause.{TableCause}
use Rattle.mw_causes.specs.declared.generate_cause.GenerateCause.{GenerateCause}
use Rattle.mw_causes.specs.declared.generate_cause.GenerateCause.TheVariants.{Tables, NotBeatable, NotFull, TooManyItems, Exhausted}
use Rattle.mw_words.specs.declared.command_line.GenerateWords.{GenerateWords}

-- ---- the file and the text

-- what `generate` makes of a joint that is so
pub record IsTextFor (joined : Joint → Type 0) (wanted : GenerateWords) (bytes text : List ℕ)
    : Type 0 where
  pub joint : Joint
  pub is_joined : joined joint
  pub made : Generates joint wanted.seed wanted.tries bytes text

-- the same of the tables that a players file names
abbrev pub GeneratedText : Files → GenerateWords → List ℕ → List ℕ → Type 0
GeneratedText files wanted bytes text = IsTextFor (JointIn files wanted.players) wanted bytes text

-- ---- why there is none

-- a joint that is so is refused
pub record IsRefusedFor (joined : Joint → Type 0) (wanted : GenerateWords) (refusal : GenerateError)
    : Type 0 where
  pub joint : Joint
  pub is_joined : joined joint
  pub is : IsRefused joint wanted.seed wanted.tries refusal

-- why there is no seed file for a joint that is so, where these stops say why there is no such
-- joint
abbrev pub IsUntextFor : (Joint → Type 0) → (Stop TableCause → Type 0) → GenerateWords
    → Stop GenerateCause → Type 0
IsUntextFor joined unjoined wanted Fault = unjoined Fault
IsUntextFor joined unjoined wanted Memory = ⊤
IsUntextFor joined unjoined wanted (Refused (Tables cause)) = unjoined (Refused cause)
IsUntextFor joined unjoined wanted (Refused (NotBeatable slot)) =
    IsRefusedFor joined wanted (refused.NotBeatable slot)
IsUntextFor joined unjoined wanted (Refused (NotFull slot place)) =
    IsRefusedFor joined wanted (refused.NotFull slot place)
IsUntextFor joined unjoined wanted (Refused (TooManyItems have room)) =
    IsRefusedFor joined wanted (refused.TooManyItems have room)
IsUntextFor joined unjoined wanted (Refused (Exhausted tries)) =
    (tries ≡ wanted.tries) × IsRefusedFor joined wanted refused.Exhausted

-- the same of the tables that a players file names
abbrev pub HasGenerateCause : Files → Bool → GenerateWords → Stop GenerateCause → Type 0
HasGenerateCause files may_fail wanted stop =
    IsUntextFor (JointIn files wanted.players) (HasTableCause files may_fail wanted.players) wanted
    stop

-- ---- ends

-- the due seed file is written and a front of the text is put; or the write was refused, and
-- nothing is put
pub record WritesSome (wrote : Wrote) (wanted : GenerateWords)
    (old new : Option (List ℕ)) : Type 0 where
  pub bytes : List ℕ
  pub text : List ℕ
  pub generated : GeneratedText wrote.before wanted bytes text
  pub others : SameBut wanted.out_name wrote.before wrote.after
  pub left : (HasFile wrote wanted.out_name bytes × PutsFront old new text)
      ⊎ (Rose wrote.refused_before wrote.refused_after × Keeps old new)

-- the seed file was written, and just the text was put
pub record IsGenerated (wrote : Wrote) (wanted : GenerateWords)
    (old new : Option (List ℕ)) : Type 0 where
  pub bytes : List ℕ
  pub text : List ℕ
  pub generated : GeneratedText wrote.before wanted bytes text
  pub others : SameBut wanted.out_name wrote.before wrote.after
  pub written : HasFile wrote wanted.out_name bytes
  pub put : Appends old new text

-- how `generate` ended with a status, with what the out sink held and how often it failed
abbrev pub GenerateEnds : ℕ → Wrote → GenerateWords → Told → Told → Type 0
GenerateEnds status wrote wanted out told =
    Ends generate_status generate_line (HasGenerateCause wrote.before wrote.may_fail wanted)
    (Untouched wrote out.old out.new) (WritesSome wrote wanted out.old out.new)
    (HasFailed wrote out) (IsGenerated wrote wanted out.old out.new) status told
