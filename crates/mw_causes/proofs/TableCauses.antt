-- Causes of tables that are a part of a command.
use Rattle.std.proofs.Common.{◌≡◌, ◌≢◌, ℕ, List, Result, Ok, Err, Bool}
use Rattle.std.specs.Prelude.{IfErr, IsErrAnd}
use Rattle.mw_multi.specs.World.{World}
use Rattle.mw_multi.specs.Players.{Players}
use Rattle.mw_multi.specs.Joint.{Joint}
use Rattle.mw_multi.specs.JointOf.{joint_of}
use Rattle.mw_multi.specs.declared.refusal.JointRefusal.{JointRefusal}
use Rattle.mw_multi.specs.declared.refusal.JointRefusal.TheVariants as refused
use Rattle.mw_causes.specs.Tables.{Files, TablesOf, JointIn, AreUnjoined, HasTableCause, joint_stop}
use Rattle.mw_causes.specs.declared.stop.Stop.{Stop}
use Rattle.mw_causes.specs.declared.stop.Stop.TheVariants.{Fault, Memory, Refused}
use Rattle.mw_causes.specs.declared.table_cause.TableCause.{TableCause}
use Rattle.mw_causes.specs.declared.table_cause.TableCause.TheVariants.{TooLong, File, Joined}
use Rattle.mw_causes.proofs.Endings.{passed_exit}

-- a joint that is refused is no fault
pub joint_late : (refusal : JointRefusal) → joint_stop refusal ≡ Fault → ⊥
joint_late (refused.GameTwice world) e = cc
joint_late (refused.UnknownName slot option place) e = cc
joint_late (refused.LinkGame link) e = cc
joint_late (refused.LinkName link place) e = cc
joint_late (refused.TooManyPlaces have) e = cc
joint_late (refused.TooMuchText have) e = cc
joint_late refused.Memory e = cc

-- a joint that is refused gives none
unjoined_by : (worlds : List World) (players : Players) (refusal : JointRefusal) → (refusal ≢ refused.Memory → joint_of worlds players ≡ Err refusal) → AreUnjoined worlds players (joint_stop refusal)
unjoined_by worlds players (refused.GameTwice world) h = h (λ e. cc)
unjoined_by worlds players (refused.UnknownName slot option place) h = h (λ e. cc)
unjoined_by worlds players (refused.LinkGame link) h = h (λ e. cc)
unjoined_by worlds players (refused.LinkName link place) h = h (λ e. cc)
unjoined_by worlds players (refused.TooManyPlaces have) h = h (λ e. cc)
unjoined_by worlds players (refused.TooMuchText have) h = h (λ e. cc)
unjoined_by worlds players refused.Memory h = tt

pub unjoined_exit : {T : Type 0} (worlds : List World) (players : Players) (answer : Result T (Stop TableCause)) (refusal : JointRefusal) → (refusal ≢ refused.Memory → joint_of worlds players ≡ Err refusal) → IsErrAnd answer (λ e. e ≡ joint_stop refusal)
    → IfErr answer (AreUnjoined worlds players)
unjoined_exit worlds players answer refusal h is =
    passed_exit (AreUnjoined worlds players) answer (joint_stop refusal) (unjoined_by worlds players refusal h) is

module _ (files : Files) (name : List ℕ) (players : Players) (worlds : List World) (t : TablesOf files name players worlds) where
  -- tables that aren't joined give no joint
  pub unjoined_cause : (may_fail : Bool) (stop : Stop TableCause) → AreUnjoined worlds players stop → HasTableCause files may_fail name stop
  unjoined_cause may_fail Fault h = absurd h
  unjoined_cause may_fail Memory h = tt
  unjoined_cause may_fail (Refused (TooLong file)) h = absurd h
  unjoined_cause may_fail (Refused (File file kind path)) h = absurd h
  unjoined_cause may_fail (Refused (Joined refusal)) h = (players, worlds, t, h)

  -- those that are give theirs
  pub joint_in : (joint : Joint) → joint_of worlds players ≡ Ok joint → JointIn files name joint
  joint_in joint h = record { players = players; worlds = worlds; tables = t; joined = h }
