-- What `reach` prints, and how it ends.
use Rattle.std.specs.Prelude.{◌≡◌, ◌++◌, ℕ, zero, suc, ◌+◌, List, [], ◌∷◌, Option, Bool, codes, decimal, length}
use Rattle.std.specs.Io.KnownBytes.{Keeps, Appends}
use Rattle.mw_edges.specs.Causes.{PutsFront, Rose}
use Rattle.mw_rules.specs.Holds.{Places, bag_of}
use Rattle.mw_multi.specs.Joint.{Slot, Joint}
use Rattle.mw_multi.specs.Steps.{steps_of, location_place}
use Rattle.mw_multi.specs.Bags.{start_count, everything, IsBagOf}
use Rattle.mw_multi.specs.Placement.{IsPlaced}
use Rattle.mw_multi.specs.Events.{events_of}
use Rattle.mw_reach.specs.Reach.{one_if, IsLeast}
use Rattle.mw_seeds.specs.Played.{first_name}
use Rattle.mw_causes.specs.Ends.{Told, Ends}
use Rattle.mw_causes.specs.Tables.{Files, JointIn, HasTableCause, table_status, table_line}

-- the least list of places for these counts, with the events alone placed
pub record Reaches (joint : Joint) (count : ℕ → ℕ) (w : Places) : Type 0 where
  pub bag : List ℕ
  pub is_bag : IsBagOf joint.slots count bag
  pub table : List (List ℕ)
  pub is_placed : IsPlaced joint (events_of joint) table
  pub least : IsLeast (steps_of joint) (bag_of bag) table w

-- ---- lines

-- how many of so many places, the first of which has this number, are in the list
abbrev pub reached_from : Places → ℕ → ℕ → ℕ
reached_from w first zero = 0
reached_from w first (suc n) = one_if (w first) + reached_from w (suc first) n

-- how many locations the slot has, events among them, and how many of them are in the list
abbrev pub location_count : Slot → ℕ
location_count s = length s.world.locations

abbrev pub reached_in : Slot → Places → ℕ
reached_in s w = reached_from w (location_place s 0) (location_count s)

-- a slot's line: its number, its name in the first team, and how many of its locations are reached,
-- of all of them
abbrev pub count_line : ℕ → Slot → ℕ → ℕ → List ℕ
count_line number s start all =
    decimal number ++ codes " " ++ first_name s ++ codes " start " ++ decimal start ++ codes " of "
    ++ decimal (location_count s)
    ++ codes " all " ++ decimal all ++ codes " of " ++ decimal (location_count s) ++ codes "\n"

-- a line for each slot, the first of which has this number
abbrev pub slot_lines : ℕ → List Slot → Places → Places → List ℕ
slot_lines number [] start all = []
slot_lines number (s ∷ ss) start all =
    count_line number s (reached_in s start) (reached_in s all)
    ++ slot_lines (number + 1) ss start all

-- what each slot reaches with what all begin with, and with all that pools and links have too
pub record ReachLines (joint : Joint) (text : List ℕ) : Type 0 where
  pub start : Places
  pub with_start : Reaches joint (start_count joint.slots) start
  pub all : Places
  pub with_all : Reaches joint (everything joint) all
  pub printed : text ≡ slot_lines 1 joint.slots start all

-- ReachText: the same of the tables that a players file names
pub record ReachText (files : Files) (name text : List ℕ) : Type 0 where
  pub joint : Joint
  pub joined : JointIn files name joint
  pub lines : ReachLines joint text

-- ---- ends

-- just its text was put
pub record Prints (files : Files) (name : List ℕ) (old new : Option (List ℕ)) : Type 0 where
  pub text : List ℕ
  pub reach : ReachText files name text
  pub put : Appends old new text

-- a front of its text was put
abbrev pub PutsFrontOfReach : Files → List ℕ → Option (List ℕ) → Option (List ℕ) → Type 0
PutsFrontOfReach files name old new =
    (text : List ℕ) × ReachText files name text × PutsFront old new text

-- how `reach` ended with a status, with what the out sink held and how often it failed
abbrev pub ReachEnds : ℕ → Files → Bool → List ℕ → Told → Told → Type 0
ReachEnds status files may_fail name out told =
    Ends table_status table_line (HasTableCause files may_fail name) (Keeps out.old out.new)
    (PutsFrontOfReach files name out.old out.new) (Rose out.before out.now)
    (Prints files name out.old out.new) status told
