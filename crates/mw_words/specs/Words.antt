-- The words of the command line after the program's name, and what they ask for.
use Rattle.std.specs.Prelude.{◌≡◌, ◌<◌, ◌≤◌, ◌^◌, ℕ, true, List, [], ◌∷◌, Option, Some, IfSome, codes, decimal, slice_get}
use Rattle.clap.specs.Words.{App, Kinds, Rule, fault_of, first_of, matches_of, new_rule}
use Rattle.clap.specs.Simple.{new_shape}
use Rattle.clap.specs.declared.builder.action.ArgAction.TheVariants.{SetTrue}
use Rattle.mw_words.specs.declared.command_line.GenerateWords.{GenerateWords}
use Rattle.mw_words.specs.declared.command_line.CheckWords.{CheckWords}
use Rattle.mw_words.specs.declared.command_line.NewRoomWords.{NewRoomWords}
use Rattle.mw_words.specs.declared.command_line.DriveWords.{DriveWords}
use Rattle.mw_words.specs.declared.command_line.ServeWords.{ServeWords}
use Rattle.mw_words.specs.declared.command_line.StressWords.{StressWords}
use Rattle.mw_words.specs.Numbers.{spelt, said}
use Rattle.mw_words.specs.declared.command_line.ThinWords.{ThinWords}

-- ---- the commands, as clap reads their words

-- a command of these arguments that offers no help and tells no version
abbrev pub command_app : List ℕ → List Rule → App
command_app name rules = record {
  top = record (new_shape name)
      { rules = rules; disable_help_flag = true; disable_version_flag = true };
  subs = [];
}

-- a word that is required, and known by its place
abbrev pub word_rule : List ℕ → Rule
word_rule id = record (new_rule id) { required = true }

-- a word that may be missing, and is known by its place
abbrev pub last_rule : List ℕ → Rule
last_rule id = new_rule id

-- an option with one value, `--id VALUE` or `--id=VALUE`
abbrev pub option_rule : List ℕ → Rule
option_rule id = record (new_rule id) { long = Some id }

-- `--seed N`, which is required
abbrev pub seed_rule : Rule
seed_rule = record (option_rule (codes "seed")) { required = true }

-- `--tries N`, 100 where it isn't there
abbrev pub tries_rule : Rule
tries_rule = record (option_rule (codes "tries")) { defaults = codes "100" ∷ [] }

-- `--bind ADDRESS`, which is required
abbrev pub bind_rule : Rule
bind_rule = record (option_rule (codes "bind")) { required = true }

-- `--workers N`, 32 where it isn't there
abbrev pub workers_rule : Rule
workers_rule = record (option_rule (codes "workers")) { defaults = codes "32" ∷ [] }

-- `--accept N`, which may be missing
abbrev pub accept_rule : Rule
accept_rule = option_rule (codes "accept")

-- `--pair`, which may be missing and has no value
abbrev pub pair_rule : Rule
pair_rule = record (option_rule (codes "pair")) { action = Some SetTrue }

-- `generate PLAYERS OUT --seed N [--tries N]`
abbrev pub generate_app : App
generate_app =
    command_app (codes "generate")
    (word_rule (codes "players") ∷ word_rule (codes "out") ∷ seed_rule ∷ tries_rule ∷ [])

-- `check PLAYERS MULTIDATA`
abbrev pub check_app : App
check_app =
    command_app (codes "check") (word_rule (codes "players") ∷ word_rule (codes "multidata") ∷ [])

-- `reach PLAYERS`
abbrev pub reach_app : App
reach_app = command_app (codes "reach") (word_rule (codes "players") ∷ [])

-- a command of a seed file and a journal, or CHOICE
abbrev pub room_app : List ℕ → App
room_app name =
    command_app name
    (word_rule (codes "multidata") ∷ word_rule (codes "journal") ∷ pair_rule ∷ [])

-- `new-room MULTIDATA JOURNAL [--pair]`
abbrev pub new_room_app : App
new_room_app = room_app (codes "new-room")

-- `drive MULTIDATA [JOURNAL] [--pair]`
abbrev pub drive_app : App
drive_app =
    command_app (codes "drive")
    (word_rule (codes "multidata") ∷ last_rule (codes "journal") ∷ pair_rule ∷ [])

-- `serve MULTIDATA JOURNAL [--pair] --bind ADDRESS [--workers N] [--accept N]`
abbrev pub serve_app : App
serve_app =
    command_app (codes "serve")
    (word_rule (codes "multidata") ∷ word_rule (codes "journal") ∷ pair_rule ∷ bind_rule
    ∷ workers_rule ∷ accept_rule ∷ [])

-- `thin MULTIDATA CHOICE`
abbrev pub thin_app : App
thin_app =
    command_app (codes "thin") (word_rule (codes "multidata") ∷ word_rule (codes "choice") ∷ [])

-- `stress N SEED`
abbrev pub stress_app : App
stress_app =
    command_app (codes "stress") (word_rule (codes "players") ∷ word_rule (codes "seed") ∷ [])

-- ---- what words ask for

-- what clap finds at fault in the words after the first
unfoldable pub faults : App → List (List ℕ) → Kinds
faults app words = fault_of app words

-- what the words give for an argument, in clap's reading
unfoldable pub given : App → List (List ℕ) → List ℕ → Option (List ℕ)
given app words id = first_of id (matches_of app words)

-- the first word is the command's name, and nothing is at fault in the others
pub record IsTaken (app : App) (words : List (List ℕ)) : Type 0 where
  pub named : slice_get words 0 ≡ Some app.top.name
  pub faultless : faults app words ≡ []

-- `generate` with two names and two numbers, which are digits with no 0 before others
pub record IsGenerate (words : List (List ℕ)) (wanted : GenerateWords) : Type 0 where
  pub taken : IsTaken generate_app words
  pub players : given generate_app words (codes "players") ≡ Some wanted.players
  pub out_name : given generate_app words (codes "out") ≡ Some wanted.out_name
  pub seed : given generate_app words (codes "seed") ≡ Some (decimal wanted.seed)
  pub seed_range : wanted.seed < 2 ^ 64
  pub tries : given generate_app words (codes "tries") ≡ Some (decimal wanted.tries)
  pub tries_range : (1 ≤ wanted.tries) × (wanted.tries ≤ 1000)

-- `check` of a players file and a seed file
pub record IsCheck (words : List (List ℕ)) (asked : CheckWords) : Type 0 where
  pub taken : IsTaken check_app words
  pub players : given check_app words (codes "players") ≡ Some asked.players
  pub multidata : given check_app words (codes "multidata") ≡ Some asked.multidata

-- `reach` of a players file
pub record IsReach (words : List (List ℕ)) (players : List ℕ) : Type 0 where
  pub taken : IsTaken reach_app words
  pub players_given : given reach_app words (codes "players") ≡ Some players

-- `new-room` of a seed file and a journal, or with `--pair` of CHOICE
pub record IsNewRoom (words : List (List ℕ)) (room : NewRoomWords) : Type 0 where
  pub taken : IsTaken new_room_app words
  pub multidata : given new_room_app words (codes "multidata") ≡ Some room.multidata
  pub journal : given new_room_app words (codes "journal") ≡ Some room.journal
  pub pair : given new_room_app words (codes "pair") ≡ Some (said room.pair)

-- `drive` of a seed file, and of a journal where one is named
pub record IsDrive (words : List (List ℕ)) (files : DriveWords) : Type 0 where
  pub taken : IsTaken drive_app words
  pub multidata : given drive_app words (codes "multidata") ≡ Some files.multidata
  pub journal : given drive_app words (codes "journal") ≡ files.journal
  pub pair : given drive_app words (codes "pair") ≡ Some (said files.pair)

-- `serve` of a seed file and a journal at an address, with a number of workers, and with one of connections where
-- it is said
pub record IsServe (words : List (List ℕ)) (room : ServeWords) : Type 0 where
  pub taken : IsTaken serve_app words
  pub multidata : given serve_app words (codes "multidata") ≡ Some room.multidata
  pub journal : given serve_app words (codes "journal") ≡ Some room.journal
  pub pair : given serve_app words (codes "pair") ≡ Some (said room.pair)
  pub bind : given serve_app words (codes "bind") ≡ Some room.bind
  pub workers : given serve_app words (codes "workers") ≡ Some (decimal room.workers)
  pub workers_range : (1 ≤ room.workers) × (room.workers ≤ 64)
  pub accept : given serve_app words (codes "accept") ≡ spelt room.accept
  pub accept_range : IfSome room.accept (λ n. (1 ≤ n) × (n ≤ 4294967295))

-- `stress` with a number of players and a seed's number
pub record IsStress (words : List (List ℕ)) (asked : StressWords) : Type 0 where
  pub taken : IsTaken stress_app words
  pub players : given stress_app words (codes "players") ≡ Some (decimal asked.players)
  pub players_range : (1 ≤ asked.players) × (asked.players ≤ 64)
  pub seed : given stress_app words (codes "seed") ≡ Some (decimal asked.seed)
  pub seed_range : asked.seed < 2 ^ 64

-- `thin` of a seed file and CHOICE
pub record IsThin (words : List (List ℕ)) (room : ThinWords) : Type 0 where
  pub taken : IsTaken thin_app words
  pub multidata : given thin_app words (codes "multidata") ≡ Some room.multidata
  pub choice : given thin_app words (codes "choice") ≡ Some room.choice
