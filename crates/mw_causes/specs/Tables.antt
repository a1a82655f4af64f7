-- The tables of a players file and of the world files that it names, or why there are none.
use Rattle.std.specs.Prelude.{◌≡◌, ◌⊎◌, ◌++◌, ℕ, ◌-◌, min, List, [], ◌∷◌, length, Option, Ok, Err, Bool, codes, decimal, ⊤}
use Rattle.mw_edges.specs.Folders.{GivesFile, MayBeUnread}
use Rattle.mw_edges.specs.declared.folder.FileRead.TheVariants.{Whole, Longer}
use Rattle.mw_json.specs.Paths.{kind_text, path_text}
use Rattle.mw_multi.specs.World.{World}
use Rattle.mw_multi.specs.Players.{Players}
use Rattle.mw_multi.specs.Files.{world_files}
use Rattle.mw_multi.specs.Joint.{Joint}
use Rattle.mw_multi.specs.JointOf.{joint_of}
use Rattle.mw_multi.specs.OptionNames.{option_text}
use Rattle.mw_multi.specs.declared.refusal.OptionName.{OptionName}
use Rattle.mw_multi.specs.declared.refusal.JointRefusal.{JointRefusal}
use Rattle.mw_multi.specs.declared.refusal.JointRefusal.TheVariants as refused
use Rattle.mw_tables.specs.WorldOf.{WorldOf}
use Rattle.mw_tables.specs.PlayersOf.{PlayersOf}
use Rattle.mw_causes.specs.declared.stop.Stop.{Stop}
use Rattle.mw_causes.specs.declared.stop.Stop.TheVariants.{Fault, Memory, Refused}
use Rattle.mw_causes.specs.declared.table_cause.TableCause.{TableCause}
use Rattle.mw_causes.specs.declared.table_cause.TableCause.TheVariants.{TooLong, File, Joined}

-- what a folder tells of each name
abbrev pub Files : Type 0
Files = List ℕ → Option (Option (List ℕ))

-- the greatest length of a players file or of a world file
abbrev pub max_table_file : ℕ
max_table_file = 16777216

-- the greatest length of all world files together
abbrev pub max_world_files : ℕ
max_world_files = 268435456

-- the greatest length of a world file, where this much is left for world files
abbrev pub world_limit : ℕ → ℕ
world_limit left = min max_table_file left

-- ---- what is read

-- the worlds of these files, where this much is left for them
abbrev pub WorldsOf : Files → ℕ → List (List ℕ) → List World → Type 0
WorldsOf files left [] worlds = worlds ≡ []
WorldsOf files left (name ∷ names) worlds =
    (bytes : List ℕ) × (w : World) × (ws : List World) × (worlds ≡ w ∷ ws)
    × GivesFile (files name) (world_limit left) (Whole bytes) × WorldOf bytes (Ok w)
    × WorldsOf files (left - length bytes) names ws

-- the players of a file, and the worlds of the files that they name
pub record TablesOf (files : Files) (name : List ℕ) (players : Players) (worlds : List World)
    : Type 0 where
  pub bytes : List ℕ
  pub is_file : GivesFile (files name) max_table_file (Whole bytes)
  pub are_players : PlayersOf bytes (Ok players)
  pub are_worlds : WorldsOf files max_world_files (world_files players) worlds

-- ---- why there are none

-- no file of this name could be read from a folder that may fail so, or it is longer than this
abbrev pub IsUnread : Option (Option (List ℕ)) → Bool → ℕ → List ℕ → Stop TableCause → Type 0
IsUnread told may_fail limit name Fault = MayBeUnread told may_fail
IsUnread told may_fail limit name Memory = ⊤
IsUnread told may_fail limit name (Refused (TooLong file)) =
    (file ≡ name) × GivesFile told limit Longer
IsUnread told may_fail limit name (Refused (File file kind path)) = ⊥
IsUnread told may_fail limit name (Refused (Joined refusal)) = ⊥

-- a world file that was read is refused
abbrev pub IsRefusedWorld : List ℕ → List ℕ → Stop TableCause → Type 0
IsRefusedWorld name bytes Fault = ⊥
IsRefusedWorld name bytes Memory = ⊤
IsRefusedWorld name bytes (Refused (TooLong file)) = ⊥
IsRefusedWorld name bytes (Refused (File file kind path)) =
    (file ≡ name) × WorldOf bytes (Err record { kind = kind; path = path })
IsRefusedWorld name bytes (Refused (Joined refusal)) = ⊥

-- the same of a players file
abbrev pub ArePlayersRefused : List ℕ → List ℕ → Stop TableCause → Type 0
ArePlayersRefused name bytes Fault = ⊥
ArePlayersRefused name bytes Memory = ⊤
ArePlayersRefused name bytes (Refused (TooLong file)) = ⊥
ArePlayersRefused name bytes (Refused (File file kind path)) =
    (file ≡ name) × PlayersOf bytes (Err record { kind = kind; path = path })
ArePlayersRefused name bytes (Refused (Joined refusal)) = ⊥

-- a world file gives no world
abbrev pub IsWorldStopped : Option (Option (List ℕ)) → Bool → ℕ → List ℕ → Stop TableCause
    → Type 0
IsWorldStopped told may_fail limit name stop =
    IsUnread told may_fail limit name stop
    ⊎ ((bytes : List ℕ) × GivesFile told limit (Whole bytes) × IsRefusedWorld name bytes stop)

-- a players file gives no players
abbrev pub ArePlayersStopped : Option (Option (List ℕ)) → Bool → ℕ → List ℕ → Stop TableCause
    → Type 0
ArePlayersStopped told may_fail limit name stop =
    IsUnread told may_fail limit name stop
    ⊎ ((bytes : List ℕ) × GivesFile told limit (Whole bytes) × ArePlayersRefused name bytes stop)

-- the first of these world files that gives no world
abbrev pub AreWorldsStopped : Files → Bool → ℕ → List (List ℕ) → Stop TableCause → Type 0
AreWorldsStopped files may_fail left [] stop = ⊥
AreWorldsStopped files may_fail left (name ∷ names) stop =
    IsWorldStopped (files name) may_fail (world_limit left) name stop
    ⊎ ((bytes : List ℕ) × (w : World) × GivesFile (files name) (world_limit left) (Whole bytes)
    × WorldOf bytes (Ok w) × AreWorldsStopped files may_fail (left - length bytes) names stop)

-- the players file gives no players, or a world file that they name gives no world
abbrev pub AreTablesStopped : Files → Bool → List ℕ → Stop TableCause → Type 0
AreTablesStopped files may_fail name stop =
    ArePlayersStopped (files name) may_fail max_table_file name stop
    ⊎ ((bytes : List ℕ) × (players : Players) × GivesFile (files name) max_table_file (Whole bytes)
    × PlayersOf bytes (Ok players)
    × AreWorldsStopped files may_fail max_world_files (world_files players) stop)

-- the tables are joined, or the joint is refused
pub record JointIn (files : Files) (name : List ℕ) (joint : Joint) : Type 0 where
  pub players : Players
  pub worlds : List World
  pub tables : TablesOf files name players worlds
  pub joined : joint_of worlds players ≡ Ok joint

abbrev pub IsJointRefused : Files → List ℕ → JointRefusal → Type 0
IsJointRefused files name refusal =
    (players : Players) × (worlds : List World) × TablesOf files name players worlds
    × (joint_of worlds players ≡ Err refusal)

-- why tables give no joint
abbrev pub AreUnjoined : List World → Players → Stop TableCause → Type 0
AreUnjoined worlds players Fault = ⊥
AreUnjoined worlds players Memory = ⊤
AreUnjoined worlds players (Refused (TooLong file)) = ⊥
AreUnjoined worlds players (Refused (File file kind path)) = ⊥
AreUnjoined worlds players (Refused (Joined refusal)) = joint_of worlds players ≡ Err refusal

-- why there is no joint: the first file that gives none of the tables, with all files before it
-- accepted, or the joint
abbrev pub HasTableCause : Files → Bool → List ℕ → Stop TableCause → Type 0
HasTableCause files may_fail name Fault = AreTablesStopped files may_fail name Fault
HasTableCause files may_fail name Memory = ⊤
HasTableCause files may_fail name (Refused (TooLong file)) =
    AreTablesStopped files may_fail name (Refused (TooLong file))
HasTableCause files may_fail name (Refused (File file kind path)) =
    AreTablesStopped files may_fail name (Refused (File file kind path))
HasTableCause files may_fail name (Refused (Joined refusal)) = IsJointRefused files name refusal

-- a refusal of a joint as a stop
abbrev pub joint_stop : JointRefusal → Stop TableCause
joint_stop (refused.GameTwice world) = Refused (Joined (refused.GameTwice world))
joint_stop (refused.UnknownName slot option place) =
    Refused (Joined (refused.UnknownName slot option place))
joint_stop (refused.LinkGame link) = Refused (Joined (refused.LinkGame link))
joint_stop (refused.LinkName link place) = Refused (Joined (refused.LinkName link place))
joint_stop (refused.TooManyPlaces have) = Refused (Joined (refused.TooManyPlaces have))
joint_stop (refused.TooMuchText have) = Refused (Joined (refused.TooMuchText have))
joint_stop refused.Memory = Memory

-- ---- statuses and lines

abbrev pub table_status : TableCause → ℕ
table_status cause = 3

-- a name that an option of a slot gives, and that nothing has
abbrev pub unknown_text : ℕ → OptionName → List ℕ
unknown_text slot option =
    codes "UnknownName " ++ (decimal slot ++ (codes " " ++ option_text option))

-- a refusal's name, and its fields in order
abbrev pub joint_text : JointRefusal → List ℕ
joint_text (refused.GameTwice world) = codes "GameTwice " ++ decimal world
joint_text (refused.UnknownName slot option place) =
    unknown_text slot option ++ (codes " " ++ decimal place)
joint_text (refused.LinkGame link) = codes "LinkGame " ++ decimal link
joint_text (refused.LinkName link place) =
    codes "LinkName " ++ (decimal link ++ (codes " " ++ decimal place))
joint_text (refused.TooManyPlaces have) = codes "TooManyPlaces " ++ decimal have
joint_text (refused.TooMuchText have) = codes "TooMuchText " ++ decimal have
joint_text refused.Memory = codes "no memory"

abbrev pub table_line : TableCause → List ℕ
table_line (TooLong file) = codes "refused: " ++ file ++ codes " TooLong /\n"
table_line (File file kind path) =
    codes "refused: " ++ file ++ codes " " ++ kind_text kind ++ codes " " ++ path_text path
    ++ codes "\n"
table_line (Joined refusal) = codes "refused: " ++ joint_text refusal ++ codes "\n"
