-- How a run ends.
use Rattle.std.specs.Prelude.{◌≡◌, ℕ, List, true, false, Option, Some, None}
use Rattle.mw_causes.specs.Ends.{Told}
use Rattle.mw_offline.specs.Driving.{DriveEnds}
use Rattle.mw_offline.specs.Reaching.{ReachEnds}
use Rattle.mw_causes.specs.Wrote.{Wrote}
use Rattle.mw_offline.specs.Generating.{GenerateEnds}
use Rattle.mw_offline.specs.Checking.{CheckEnds}
use Rattle.mw_offline.specs.FilesAround.{FilesAround}
use Rattle.mw_offline.specs.NewRooms.{NewRoomEnds}
use Rattle.mw_offline.specs.PairDriving.{PairDriveEnds, pair_choice}
use Rattle.mw_offline.specs.PairRooms.{PairRoomEnds}
use Rattle.mw_offline.specs.Stressing.{StressEnds}
use Rattle.mw_offline.specs.ThinRuns.{ThinEnds}
use Rattle.mw_words.specs.declared.command_line.CommandLine.{CommandLine}
use Rattle.mw_words.specs.declared.command_line.ServeWords.{ServeWords}
use Rattle.mw_words.specs.declared.command_line.CommandLine.TheVariants.{Generate, Check, Reach, NewRoom, Drive, Serve, Stress, Thin}

-- what the folder's files were and are and what a crash may leave of them, the input before and
-- after with what it tells is left, what the out sink held before and after and how often it failed,
-- what the error sink was told, and how a room, and a pair room, that is served with these words ends
-- with a status
pub record Around (S : Type 0) : Type 1 where
  pub wrote : Wrote
  pub files : FilesAround
  pub left : S → Option (List ℕ)
  pub input : S
  pub input_after : S
  pub out : Told
  pub told : Told
  pub serves : ℕ → ServeWords → Type 0
  pub pair_serves : ℕ → ServeWords → Type 0

abbrev pub around : {S : Type 0} → Wrote → FilesAround → (S → Option (List ℕ)) → S → S → Told → Told
    → (ℕ → ServeWords → Type 0) → (ℕ → ServeWords → Type 0) → Around S
around wrote files left input after out told serves pair_serves = record {
  wrote = wrote;
  files = files;
  left = left;
  input = input;
  input_after = after;
  out = out;
  told = told;
  serves = serves;
  pair_serves = pair_serves;
}

-- what a command line asks for ended with this status
abbrev pub LineEnds : {S : Type 0} → CommandLine → ℕ → Around S → Type 0
LineEnds (Generate w) status a = GenerateEnds status a.wrote w a.out a.told
LineEnds (Check w) status a =
    CheckEnds status a.wrote.before a.wrote.may_fail w a.out a.told
LineEnds (Reach w) status a =
    ReachEnds status a.wrote.before a.wrote.may_fail w.players a.out a.told
LineEnds (NewRoom w) status a =
    (w.pair ≡ false → NewRoomEnds status a.files w a.out a.told)
    × (w.pair ≡ true → PairRoomEnds status a.files w a.out a.told)
LineEnds (Drive w) status a =
    (pair_choice w ≡ None → DriveEnds a.left status a.files w a.input a.input_after a.out a.told)
    × ((choice : List ℕ) → pair_choice w ≡ Some choice
    → PairDriveEnds a.left status a.files w.multidata choice a.input a.input_after a.out a.told)
LineEnds (Serve w) status a =
    (w.pair ≡ false → a.serves status w) × (w.pair ≡ true → a.pair_serves status w)
LineEnds (Stress w) status a = StressEnds status w a.out a.told
LineEnds (Thin w) status a = ThinEnds status a.files w a.out a.told
