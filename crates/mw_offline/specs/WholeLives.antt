-- The whole life of a journal: a room that was made new, and then runs of `drive` on it, each on what
-- a crash may have left of the one before.
use Rattle.std.specs.Prelude.{◌≡◌, ℕ, ◌∷◌, List, [], Option, All, Contains, IsTrue, is_some, length, take, drop}
use Rattle.std.specs.List.{AllByRecursion}
use Rattle.mw_causes.specs.Tables.{Files}
use Rattle.mw_drive.specs.Drive.{Put, gone, overrun, message, text_put}
use Rattle.mw_drive.specs.Ends.{IsFound}
use Rattle.mw_drive.specs.Left.{IsTold, KeepsShown}
use Rattle.mw_edges.specs.Causes.{PutsFront}
use Rattle.mw_edges.specs.Folders.{opened_bytes}
use Rattle.mw_journal.specs.Settled.{AllShut}
use Rattle.mw_keep.specs.Left.{IsLeft}
use Rattle.mw_laws.specs.Items.{NoItemTwice}
use Rattle.mw_laws.specs.Shows.{MayPlayAs, ShowsChecked}
use Rattle.mw_model.specs.Items.{NetItem}
use Rattle.mw_model.specs.Seed.{Seed}
use Rattle.mw_protocol.specs.Asked.{view}
use Rattle.mw_protocol.specs.Connecting.{Member}
use Rattle.mw_protocol.specs.Lives.{Step, life_after_all}
use Rattle.mw_protocol.specs.Messages.{received_items}
use Rattle.mw_protocol.specs.Records.{Record}
use Rattle.mw_protocol.specs.Rooms.{Message}

-- ---- what was put

-- the journal keeps a message that a session took in the life to which these steps came: each check
-- that it shows is among the journal's; and the items of each ReceivedItems of it, which are the tail
-- from its index of what the session was to receive at the event that owed it, stand at that index in
-- what it is to receive by the journal
pub record KeepsMessage (seed : Seed) (steps : List Step) (journal : List Record) (session : ℕ)
    (member : Option Member) (m : Message)
    : Type 0 where
  pub told : IsTold seed steps session member m
  pub shows : (k : Member) → MayPlayAs k member → ShowsChecked seed journal k m
  pub stand : (index : ℕ) (items : List NetItem)
      → (has : Contains m.packets (received_items index items))
      → items ≡ take (length items)
      (drop index (view seed (told.tails index items has).member.mask
      (told.tails index items has).member.team (told.tails index items has).member.slot journal))

abbrev pub KeepsPut : Seed → List Step → List Record → Put → Type 0
KeepsPut seed steps journal (gone session) = Unit {0}
KeepsPut seed steps journal (overrun session) = Unit {0}
KeepsPut seed steps journal (message session member m) =
    KeepsMessage seed steps journal session member m

-- ---- runs of any kind

-- the journal's file, in a folder that tells so what its files hold and what a crash may leave
module _ {F : Type 0} (holds : F → Files) (images : F → List ℕ → List ℕ → Type 0) (digest : List ℕ)
    (seed : Seed) (name : List ℕ) where
  -- the folder tells the file, and of it only what a crash may have left before
  pub record GoesOnFrom (before next : F) : Type 0 where
    pub told : IsTrue (is_some (opened_bytes (holds next name)))
    pub fewer : (c : List ℕ) → images next name c → images before name c

  -- each run is from one state of the folder to another, and keeps something
  module _ {R : Type 0} (first last : R → F) where
    -- the folder after the last run
    abbrev pub last_of : F → List R → F
    last_of folder [] = folder
    last_of folder (r ∷ rs) = last_of (last r) rs

    -- each goes on from the one before
    abbrev pub AreRuns : (R → Type 0) → F → List R → Type 0
    AreRuns keeps folder [] = Unit {0}
    AreRuns keeps folder (r ∷ rs) =
        GoesOnFrom folder (first r) × keeps r × AreRuns keeps (last r) rs

    -- some steps of lives came of the runs. What a crash may have left is settled for the life that
    -- they led to, so that no later run is refused for its journal; and whatever journal a later run
    -- finds, it keeps what each run showed, and gives no item twice
    pub record AreKept (shows : List Step → List Record → R → Type 0) (folder : F) (runs : List R)
        : Type 0 where
      pub steps : List Step
      pub settled : (next : F) → GoesOnFrom (last_of folder runs) next
          → IsLeft (images next name) digest (life_after_all seed steps)
      pub kept : (next : F) (journal : List Record) (place : ℕ)
          → GoesOnFrom (last_of folder runs) next
          → IsFound (opened_bytes (holds next name)) (images next name) digest seed journal place
          → AllByRecursion (shows steps journal) runs × NoItemTwice seed journal

-- ---- runs of `drive`

-- a run from one state of a folder to another, with what the out sink held
pub record Run (F : Type 0) : Type 0 where
  pub first : F
  pub last : F
  pub old : Option (List ℕ)
  pub new : Option (List ℕ)

-- what the run put is a front of a text that the journal keeps
pub record KeepsRun {F : Type 0} (seed : Seed) (steps : List Step) (journal : List Record)
    (r : Run F)
    : Type 0 where
  pub put : List Put
  pub front : PutsFront r.old r.new (text_put put)
  pub kept : All (KeepsPut seed steps journal) put

-- what was shown by what a run put is kept. The clause of `drive` says so of each run that
-- returned; of one that never did it is taken here, and the clauses of a kept room's calls say it
-- of each call
abbrev pub KeepsOn : {F : Type 0} → (F → Files) → (F → List ℕ → List ℕ → Type 0) → List ℕ → Seed
    → List ℕ → Run F → Type 0
KeepsOn holds images digest seed name r =
    (steps : List Step) → IsTrue (is_some (opened_bytes (holds r.first name)))
    → IsLeft (images r.first name) digest (life_after_all seed steps)
    → KeepsShown (images r.last name) digest seed steps r.old r.new

-- after a `new-room` that made the file, and any runs on it
abbrev pub JournalsKeep : {F : Type 0} → (F → Files) → (F → List ℕ → List ℕ → Type 0) → Type 0
JournalsKeep {F} holds images =
    (digest : List ℕ) (seed : Seed) (name : List ℕ) (made : F) (runs : List (Run F))
    → AllShut (images made name) digest [] 40
    → AreRuns holds images digest seed name (λ r. r.first) (λ r. r.last)
    (KeepsOn holds images digest seed name) made runs
    → AreKept holds images digest seed name (λ r. r.first) (λ r. r.last) (KeepsRun seed) made runs
