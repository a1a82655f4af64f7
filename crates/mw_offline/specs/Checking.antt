-- What `check` finds and prints, and how it ends.
use Rattle.std.specs.Prelude.{◌≡◌, ◌⊎◌, ◌++◌, ◌+◌, ℕ, List, Option, Bool, codes, decimal, length, ⊤}
use Rattle.std.specs.Io.KnownBytes.{Keeps, Appends}
use Rattle.mw_edges.specs.Causes.{PutsFront, Rose}
use Rattle.mw_edges.specs.Folders.{MayBeUnread}
use Rattle.mw_model.specs.Seed.{Seed, Spot}
use Rattle.mw_multi.specs.Joint.{Joint}
use Rattle.mw_multi.specs.Placement.{Put, what_stands}
use Rattle.mw_spheres.specs.Playthrough.{IsPlaythrough, NoneToSpare}
use Rattle.mw_seeds.specs.Played.{played_lines}
use Rattle.mw_seeds.specs.Judging.{IsRight, IsNotRight}
use Rattle.mw_seeds.specs.declared.refusal.SeedRefusal.{SeedRefusal}
use Rattle.mw_seeds.specs.declared.refusal.SeedRefusal.TheVariants as found
use Rattle.mw_causes.specs.CheckCauses.{check_status, check_line}
use Rattle.mw_causes.specs.Ends.{Told, Ends}
use Rattle.mw_causes.specs.Tables.{Files, JointIn, HasTableCause}
use Rattle.mw_causes.specs.SeedFiles.{SeedIn, IsSeedStopped}
use Rattle.mw_causes.specs.declared.stop.Stop.{Stop}
use Rattle.mw_causes.specs.declared.stop.Stop.TheVariants.{Fault, Memory, Refused}
use Rattle.mw_causes.specs.declared.table_cause.TableCause.{TableCause}
use Rattle.mw_causes.specs.declared.check_cause.CheckCause.{CheckCause}
use Rattle.mw_causes.specs.declared.check_cause.CheckCause.TheVariants.{Tables, SeedFile, OtherLinks, OtherTables, GoalMissed, LocationMissed, Wrong, Missing}
use Rattle.mw_words.specs.declared.command_line.CheckWords.{CheckWords}

-- ---- the text

abbrev pub right_line : ℕ → List ℕ
right_line spheres = codes "ok spheres " ++ decimal spheres ++ codes "\n"

-- the text has the playthrough of a placement with these spheres, of which no entry can be left out
pub record HasPlaythrough (joint : Joint) (puts : List Put) (spheres : List (List Spot))
    (text : List ℕ) : Type 0 where
  pub played : List (List Spot)
  pub is_playthrough : IsPlaythrough joint puts spheres played
  pub needed : NoneToSpare joint puts played
  pub printed : text ≡ right_line (length spheres)
      ++ played_lines joint (what_stands puts) 1 played

-- the seed file is right for the joint, and the text has the playthrough of its placement
pub record IsRightText (joint : Joint) (seed : Seed) (text : List ℕ) : Type 0 where
  pub puts : List Put
  pub right : IsRight joint seed puts
  pub played : HasPlaythrough joint puts seed.spheres text

-- the same of a joint that is so, and of the seed that a file stands for
pub record IsTextFor (joined : Joint → Type 0) (file : Option (Option (List ℕ))) (text : List ℕ)
    : Type 0 where
  pub joint : Joint
  pub is_joined : joined joint
  pub seed : Seed
  pub seed_in : SeedIn file seed
  pub right : IsRightText joint seed text

-- the same of the tables that a players file names, and a seed file
abbrev pub CheckedText : Files → CheckWords → List ℕ → Type 0
CheckedText files asked text = IsTextFor (JointIn files asked.players) (files asked.multidata) text

-- ---- why there is none

-- this is wrong with a joint that is so
abbrev pub IsJoinedBut : (Joint → Type 0) → Type 0 → Type 0
IsJoinedBut joined wrong = (joint : Joint) × joined joint × wrong

-- the seed that the file stands for isn't right for it
pub record IsWrongFor (joined : Joint → Type 0) (file : Option (Option (List ℕ)))
    (refusal : SeedRefusal) : Type 0 where
  pub joint : Joint
  pub is_joined : joined joint
  pub seed : Seed
  pub seed_in : SeedIn file seed
  pub wrong : IsNotRight joint seed refusal

-- why there is no text for a joint that is so, where these stops say why there is no such joint:
-- the seed file is read only where there is one, and judged against it only where it stands for a
-- seed
abbrev pub IsUntextFor : (Joint → Type 0) → (Stop TableCause → Type 0) → Option (Option (List ℕ))
    → Bool → Stop CheckCause → Type 0
IsUntextFor joined unjoined file may_fail Fault =
    unjoined Fault ⊎ IsJoinedBut joined (MayBeUnread file may_fail)
IsUntextFor joined unjoined file may_fail Memory = ⊤
IsUntextFor joined unjoined file may_fail (Refused (Tables cause)) = unjoined (Refused cause)
IsUntextFor joined unjoined file may_fail (Refused (SeedFile cause)) =
    IsJoinedBut joined (IsSeedStopped file may_fail (Refused cause))
IsUntextFor joined unjoined file may_fail (Refused OtherLinks) =
    IsWrongFor joined file found.OtherLinks
IsUntextFor joined unjoined file may_fail (Refused (OtherTables slot location)) =
    IsWrongFor joined file (found.OtherTables slot location)
IsUntextFor joined unjoined file may_fail (Refused (GoalMissed slot)) =
    IsWrongFor joined file (found.GoalMissed slot)
IsUntextFor joined unjoined file may_fail (Refused (LocationMissed slot place)) =
    IsWrongFor joined file (found.LocationMissed slot place)
IsUntextFor joined unjoined file may_fail (Refused (Wrong sphere place)) =
    IsWrongFor joined file (found.Wrong sphere place)
IsUntextFor joined unjoined file may_fail (Refused (Missing sphere place)) =
    IsWrongFor joined file (found.Missing sphere place)

-- the same of the tables that a players file names, and a seed file
abbrev pub HasCheckCause : Files → Bool → CheckWords → Stop CheckCause → Type 0
HasCheckCause files may_fail asked stop =
    IsUntextFor (JointIn files asked.players) (HasTableCause files may_fail asked.players)
    (files asked.multidata) may_fail stop

-- ---- ends

-- just its text was put
pub record PrintsChecked (files : Files) (asked : CheckWords)
    (old new : Option (List ℕ)) : Type 0 where
  pub text : List ℕ
  pub checked : CheckedText files asked text
  pub put : Appends old new text

-- a front of its text was put
abbrev pub PutsFrontOfChecked : Files → CheckWords → Option (List ℕ) → Option (List ℕ) → Type 0
PutsFrontOfChecked files asked old new =
    (text : List ℕ) × CheckedText files asked text × PutsFront old new text

-- how `check` ended with a status, with what the out sink held and how often it failed
abbrev pub CheckEnds : ℕ → Files → Bool → CheckWords → Told → Told → Type 0
CheckEnds status files may_fail asked out told =
    Ends check_status check_line (HasCheckCause files may_fail asked) (Keeps out.old out.new)
    (PutsFrontOfChecked files asked out.old out.new) (Rose out.before out.now)
    (PrintsChecked files asked out.old out.new) status told
