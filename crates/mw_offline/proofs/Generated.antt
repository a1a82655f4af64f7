-- What `generate` makes.
use Rattle.std.proofs.Common.{◌≡◌, ℕ, List, Result, Ok, Bool, refl, sym, subst}
use Rattle.std.specs.Prelude.{IfErr, IsErrAnd}
use Rattle.mw_multi.specs.World.{World}
use Rattle.mw_multi.specs.Players.{Players}
use Rattle.mw_multi.specs.Joint.{Joint}
use Rattle.mw_multi.specs.JointOf.{joint_of}
use Rattle.mw_fill.specs.declared.seed.GenerateError.{GenerateError}
use Rattle.mw_fill.specs.declared.seed.GenerateError.TheVariants as refused
use Rattle.mw_fill.specs.Generated.{IsRefused}
use Rattle.mw_causes.specs.Ends.{stop_with}
use Rattle.mw_causes.specs.Tables.{Files, TablesOf, JointIn, AreUnjoined, HasTableCause}
use Rattle.mw_words.specs.declared.command_line.GenerateWords.{GenerateWords}
use Rattle.mw_causes.specs.GenerateCauses.{generate_stop}
use Rattle.mw_seeds.specs.Made.{Generates}
use Rattle.mw_offline.specs.Generating.{IsTextFor, GeneratedText, IsRefusedFor, IsUntextFor, HasGenerateCause}
use Rattle.mw_causes.specs.declared.stop.Stop.{Stop}
use Rattle.mw_causes.specs.declared.stop.Stop.TheVariants.{Fault, Memory, Refused}
use Rattle.mw_causes.specs.declared.table_cause.TableCause.{TableCause}
use Rattle.mw_causes.specs.declared.generate_cause.GenerateCause.{GenerateCause}
use Rattle.mw_causes.specs.declared.generate_cause.GenerateCause.TheVariants.{Tables, NotBeatable, NotFull, TooManyItems, Exhausted}
use Rattle.mw_causes.proofs.Endings.{passed_exit}
use Rattle.mw_causes.proofs.TableCauses.{unjoined_cause, joint_in}

-- ---- why there is none

-- a refusal is no fault
pub refused_late : (tries : ℕ) (error : GenerateError) → generate_stop tries error ≡ Fault → ⊥
refused_late tries (refused.NotBeatable slot) e = cc
refused_late tries (refused.NotFull slot place) e = cc
refused_late tries (refused.TooManyItems have room) e = cc
refused_late tries refused.Exhausted e = cc
refused_late tries refused.Memory e = cc

module _ (joined : Joint → Type 0) (unjoined : Stop TableCause → Type 0) (wanted : GenerateWords) where
  -- there is no such joint
  unjoined_by : (stop : Stop TableCause) → unjoined stop → IsUntextFor joined unjoined wanted (stop_with Tables stop)
  unjoined_by Fault h = h
  unjoined_by Memory h = tt
  unjoined_by (Refused cause) h = h

  pub unjoined_for : {T : Type 0} (answer : Result T (Stop GenerateCause)) (stop : Stop TableCause) → unjoined stop → IsErrAnd answer (λ e. e ≡ stop_with Tables stop) → IfErr answer (IsUntextFor joined unjoined wanted)
  unjoined_for answer stop h is = passed_exit (IsUntextFor joined unjoined wanted) answer (stop_with Tables stop) (unjoined_by stop h) is

  module _ (joint : Joint) (is_joined : joined joint) where
    -- it is refused
    refused_by : (error : GenerateError) → IsRefused joint wanted.seed wanted.tries error → IsUntextFor joined unjoined wanted (generate_stop wanted.tries error)
    refused_by (refused.NotBeatable slot) h = record { joint = joint; is_joined = is_joined; is = h }
    refused_by (refused.NotFull slot place) h = record { joint = joint; is_joined = is_joined; is = h }
    refused_by (refused.TooManyItems have room) h = record { joint = joint; is_joined = is_joined; is = h }
    refused_by refused.Exhausted h = (refl, record { joint = joint; is_joined = is_joined; is = h })
    refused_by refused.Memory h = tt

    pub refused_for : (error : GenerateError) (named : Stop GenerateCause) → IsRefused joint wanted.seed wanted.tries error → named ≡ generate_stop wanted.tries error → IsUntextFor joined unjoined wanted named
    refused_for error named h is = subst (IsUntextFor joined unjoined wanted) (sym is) (refused_by error h)

    -- it isn't
    pub text_for : (bytes text : List ℕ) → Generates joint wanted.seed wanted.tries bytes text → IsTextFor joined wanted bytes text
    text_for bytes text made = record { joint = joint; is_joined = is_joined; made = made }

-- tables that aren't read
pub table_cause : {T : Type 0} (files : Files) (may_fail : Bool) (wanted : GenerateWords) (answer : Result T (Stop GenerateCause)) (stop : Stop TableCause) → HasTableCause files may_fail wanted.players stop → IsErrAnd answer (λ e. e ≡ stop_with Tables stop)
    → IfErr answer (HasGenerateCause files may_fail wanted)
table_cause files may_fail wanted answer stop h is = unjoined_for (JointIn files wanted.players) (HasTableCause files may_fail wanted.players) wanted answer stop h is

module _ (files : Files) (wanted : GenerateWords) (players : Players) (worlds : List World) (t : TablesOf files wanted.players players worlds) where
  abbrev joined_so : Joint → Type 0
  joined_so joint = joint_of worlds players ≡ Ok joint

  pub generated_text : (bytes text : List ℕ) → IsTextFor joined_so wanted bytes text → GeneratedText files wanted bytes text
  generated_text bytes text h = record { joint = h.joint; is_joined = joint_in files wanted.players players worlds t h.joint h.is_joined; made = h.made }

  refused_there : (error : GenerateError) → IsRefusedFor joined_so wanted error → IsRefusedFor (JointIn files wanted.players) wanted error
  refused_there error h = record { joint = h.joint; is_joined = joint_in files wanted.players players worlds t h.joint h.is_joined; is = h.is }

  pub generate_cause : (may_fail : Bool) (stop : Stop GenerateCause) → IsUntextFor joined_so (AreUnjoined worlds players) wanted stop → HasGenerateCause files may_fail wanted stop
  generate_cause may_fail Fault h = absurd h
  generate_cause may_fail Memory h = tt
  generate_cause may_fail (Refused (Tables cause)) h = unjoined_cause files wanted.players players worlds t may_fail (Refused cause) h
  generate_cause may_fail (Refused (NotBeatable slot)) h = refused_there (refused.NotBeatable slot) h
  generate_cause may_fail (Refused (NotFull slot place)) h = refused_there (refused.NotFull slot place) h
  generate_cause may_fail (Refused (TooManyItems have room)) h = refused_there (refused.TooManyItems have room) h
  generate_cause may_fail (Refused (Exhausted tries)) h = (h.0, refused_there refused.Exhausted h.1)
