-- What `check` finds.
use Rattle.std.proofs.Common.{◌≡◌, ℕ, List, Option, Result, Ok, Bool, inl, inr, subst}
use Rattle.std.specs.Prelude.{IfErr, IsErrAnd, IsTrue}
use Rattle.mw_model.specs.Seed.{Seed, Spot}
use Rattle.mw_multi.specs.World.{World}
use Rattle.mw_multi.specs.Players.{Players}
use Rattle.mw_multi.specs.Joint.{Joint}
use Rattle.mw_multi.specs.JointOf.{joint_of}
use Rattle.mw_multi.specs.Placement.{Put}
use Rattle.mw_seeds.specs.Judging.{IsRight, IsNotRight}
use Rattle.mw_seeds.specs.declared.refusal.SeedRefusal.{SeedRefusal}
use Rattle.mw_seeds.specs.declared.refusal.SeedRefusal.TheVariants as found
use Rattle.mw_causes.specs.Ends.{stop_with}
use Rattle.mw_causes.specs.Tables.{Files, TablesOf, JointIn, AreUnjoined, HasTableCause}
use Rattle.mw_causes.specs.SeedFiles.{SeedIn, IsSeedStopped}
use Rattle.mw_words.specs.declared.command_line.CheckWords.{CheckWords}
use Rattle.mw_causes.specs.CheckCauses.{wrong_stop}
use Rattle.mw_offline.specs.Checking.{HasPlaythrough, IsWrongFor, IsTextFor, CheckedText, IsUntextFor, HasCheckCause}
use Rattle.mw_causes.specs.declared.stop.Stop.{Stop}
use Rattle.mw_causes.specs.declared.stop.Stop.TheVariants.{Fault, Memory, Refused}
use Rattle.mw_causes.specs.declared.table_cause.TableCause.{TableCause}
use Rattle.mw_causes.specs.declared.seed_cause.SeedCause.{SeedCause}
use Rattle.mw_causes.specs.declared.check_cause.CheckCause.{CheckCause}
use Rattle.mw_causes.specs.declared.check_cause.CheckCause.TheVariants.{Tables, SeedFile, OtherLinks, OtherTables, GoalMissed, LocationMissed, Wrong, Missing}
use Rattle.mw_causes.proofs.Endings.{passed_exit}
use Rattle.mw_causes.specs.declared.seed_cause.SeedCause.TheVariants.{File, TooLong}
use Rattle.mw_causes.proofs.TableCauses.{unjoined_cause, joint_in}
use Rattle.mw_causes.proofs.Unread.{unread_before}

-- a seed file that isn't right is no fault
pub wrong_late : (refusal : SeedRefusal) → wrong_stop refusal ≡ Fault → ⊥
wrong_late found.OtherLinks e = cc
wrong_late (found.OtherTables slot location) e = cc
wrong_late (found.GoalMissed slot) e = cc
wrong_late (found.LocationMissed slot place) e = cc
wrong_late (found.Wrong sphere place) e = cc
wrong_late (found.Missing sphere place) e = cc
wrong_late found.Memory e = cc

module _ (joined : Joint → Type 0) (unjoined : Stop TableCause → Type 0) (file : Option (Option (List ℕ))) (may_fail : Bool) where
  -- there is no such joint
  unjoined_by : (stop : Stop TableCause) → unjoined stop → IsUntextFor joined unjoined file may_fail (stop_with Tables stop)
  unjoined_by Fault h = inl h
  unjoined_by Memory h = tt
  unjoined_by (Refused cause) h = h

  pub unjoined_for : {T : Type 0} (answer : Result T (Stop CheckCause)) (stop : Stop TableCause) → unjoined stop → IsErrAnd answer (λ e. e ≡ stop_with Tables stop) → IfErr answer (IsUntextFor joined unjoined file may_fail)
  unjoined_for answer stop h is = passed_exit (IsUntextFor joined unjoined file may_fail) answer (stop_with Tables stop) (unjoined_by stop h) is

  module _ (joint : Joint) (is_joined : joined joint) where
    -- the seed file gives no seed
    unread_by : (stop : Stop SeedCause) → IsSeedStopped file may_fail stop → IsUntextFor joined unjoined file may_fail (stop_with SeedFile stop)
    unread_by Fault h = inr (joint, is_joined, h)
    unread_by Memory h = tt
    unread_by (Refused cause) h = (joint, is_joined, h)

    pub unread_for : {T : Type 0} (answer : Result T (Stop CheckCause)) (stop : Stop SeedCause) → IsSeedStopped file may_fail stop → IsErrAnd answer (λ e. e ≡ stop_with SeedFile stop) → IfErr answer (IsUntextFor joined unjoined file may_fail)
    unread_for answer stop h is = passed_exit (IsUntextFor joined unjoined file may_fail) answer (stop_with SeedFile stop) (unread_by stop h) is

    module _ (seed : Seed) (seed_in : SeedIn file seed) where
      -- its seed isn't right
      wrong_by : (refusal : SeedRefusal) → IsNotRight joint seed refusal → IsUntextFor joined unjoined file may_fail (wrong_stop refusal)
      wrong_by found.OtherLinks h = record { joint = joint; is_joined = is_joined; seed = seed; seed_in = seed_in; wrong = h }
      wrong_by (found.OtherTables slot location) h = record { joint = joint; is_joined = is_joined; seed = seed; seed_in = seed_in; wrong = h }
      wrong_by (found.GoalMissed slot) h = record { joint = joint; is_joined = is_joined; seed = seed; seed_in = seed_in; wrong = h }
      wrong_by (found.LocationMissed slot place) h = record { joint = joint; is_joined = is_joined; seed = seed; seed_in = seed_in; wrong = h }
      wrong_by (found.Wrong sphere place) h = record { joint = joint; is_joined = is_joined; seed = seed; seed_in = seed_in; wrong = h }
      wrong_by (found.Missing sphere place) h = record { joint = joint; is_joined = is_joined; seed = seed; seed_in = seed_in; wrong = h }
      wrong_by found.Memory h = tt

      pub wrong_for : {T : Type 0} (answer : Result T (Stop CheckCause)) (refusal : SeedRefusal) → IsNotRight joint seed refusal → IsErrAnd answer (λ e. e ≡ wrong_stop refusal) → IfErr answer (IsUntextFor joined unjoined file may_fail)
      wrong_for answer refusal h is = passed_exit (IsUntextFor joined unjoined file may_fail) answer (wrong_stop refusal) (wrong_by refusal h) is

      -- it is
      pub text_for : (puts : List Put) (spheres : List (List Spot)) (text : List ℕ) → spheres ≡ seed.spheres → IsRight joint seed puts → HasPlaythrough joint puts spheres text → IsTextFor joined file text
      text_for puts spheres text same right played = record {
        joint = joint;
        is_joined = is_joined;
        seed = seed;
        seed_in = seed_in;
        right = record { puts = puts; right = right; played = subst (λ ss. HasPlaythrough joint puts ss text) same played };
      }

-- ---- of the files that were read

-- what a seed file is refused for is so whether or not a read may fail
refused_before : (file : Option (Option (List ℕ))) (may_later may_fail : Bool) (cause : SeedCause) → IsSeedStopped file may_later (Refused cause) → IsSeedStopped file may_fail (Refused cause)
refused_before file may_later may_fail (File kind path) h = h
refused_before file may_later may_fail TooLong h = h

-- tables that aren't read
pub table_cause : {T : Type 0} (files : Files) (may_fail : Bool) (asked : CheckWords) (answer : Result T (Stop CheckCause)) (stop : Stop TableCause) → HasTableCause files may_fail asked.players stop → IsErrAnd answer (λ e. e ≡ stop_with Tables stop)
    → IfErr answer (HasCheckCause files may_fail asked)
table_cause files may_fail asked answer stop h is = unjoined_for (JointIn files asked.players) (HasTableCause files may_fail asked.players) (files asked.multidata) may_fail answer stop h is

module _ (files : Files) (asked : CheckWords) (players : Players) (worlds : List World) (t : TablesOf files asked.players players worlds) where
  pub checked_text : (file : Option (Option (List ℕ))) → file ≡ files asked.multidata → (text : List ℕ) → IsTextFor (λ joint. joint_of worlds players ≡ Ok joint) file text → CheckedText files asked text
  checked_text file same text h = record {
    joint = h.joint;
    is_joined = joint_in files asked.players players worlds t h.joint h.is_joined;
    seed = h.seed;
    seed_in = subst (λ f. SeedIn f h.seed) same h.seed_in;
    right = h.right;
  }

  abbrev joined_so : Joint → Type 0
  joined_so joint = joint_of worlds players ≡ Ok joint

  -- what isn't right with the joint of the tables isn't with that of the files
  wrong_there : (refusal : SeedRefusal) → IsWrongFor joined_so (files asked.multidata) refusal → IsWrongFor (JointIn files asked.players) (files asked.multidata) refusal
  wrong_there refusal h = record { joint = h.joint; is_joined = joint_in files asked.players players worlds t h.joint h.is_joined; seed = h.seed; seed_in = h.seed_in; wrong = h.wrong }

  module _ (may_later may_fail : Bool) (sound : IsTrue may_later → IsTrue may_fail) where
    here_cause : (stop : Stop CheckCause) → IsUntextFor joined_so (AreUnjoined worlds players) (files asked.multidata) may_later stop → HasCheckCause files may_fail asked stop
    here_cause Fault (inl h) = absurd h
    here_cause Fault (inr (joint, h, is)) = inr (joint, joint_in files asked.players players worlds t joint h, unread_before may_later may_fail sound (files asked.multidata) is)
    here_cause Memory h = tt
    here_cause (Refused (Tables cause)) h = unjoined_cause files asked.players players worlds t may_fail (Refused cause) h
    here_cause (Refused (SeedFile cause)) (joint, h, is) = (joint, joint_in files asked.players players worlds t joint h, refused_before (files asked.multidata) may_later may_fail cause is)
    here_cause (Refused OtherLinks) h = wrong_there found.OtherLinks h
    here_cause (Refused (OtherTables slot location)) h = wrong_there (found.OtherTables slot location) h
    here_cause (Refused (GoalMissed slot)) h = wrong_there (found.GoalMissed slot) h
    here_cause (Refused (LocationMissed slot place)) h = wrong_there (found.LocationMissed slot place) h
    here_cause (Refused (Wrong sphere place)) h = wrong_there (found.Wrong sphere place) h
    here_cause (Refused (Missing sphere place)) h = wrong_there (found.Missing sphere place) h

    pub check_cause : (file : Option (Option (List ℕ))) → file ≡ files asked.multidata → (stop : Stop CheckCause) → IsUntextFor joined_so (AreUnjoined worlds players) file may_later stop → HasCheckCause files may_fail asked stop
    check_cause file same stop h = here_cause stop (subst (λ f. IsUntextFor joined_so (AreUnjoined worlds players) f may_later stop) same h)
