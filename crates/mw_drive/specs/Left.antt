-- What a script's run puts, and what a crash may leave of its journal.
use Rattle.std.specs.Prelude.{◌≡◌, ◌⊎◌, ℕ, ◌++◌, ◌∷◌, List, Option, None, All, Contains, IsTrue, IsFalse, is_some}
use Rattle.std.specs.List.{list_any}
use Rattle.std.specs.Io.KnownBytes.{Appends, Keeps}
use Rattle.mw_edges.specs.Causes.{PutsFront}
use Rattle.mw_model.specs.Seed.{Seed}
use Rattle.mw_protocol.specs.Connecting.{Member}
use Rattle.mw_protocol.specs.Lives.{Life, Luck, Step, takes, fine, after_all, committed_of, life_after_all, new_life, untaken_in}
use Rattle.mw_protocol.specs.Records.{Record}
use Rattle.mw_protocol.specs.Rooms.{Message, member_in}
use Rattle.mw_protocol.specs.Spelled.{records_bytes}
use Rattle.mw_journal.specs.Journal.{state_of}
use Rattle.mw_journal.specs.Settled.{AllShut}
use Rattle.mw_journal.specs.declared.state.JournalState.TheVariants.{Whole}
use Rattle.mw_laws.specs.Kept.{Passes, journal_after}
use Rattle.mw_laws.specs.Shows.{MayPlayAs, ShowsChecked}
use Rattle.mw_laws.specs.Tails.{AreTails, taking}
use Rattle.mw_keep.specs.Keeps.{journal_of}
use Rattle.mw_keep.specs.Left.{IsLeft}
use Rattle.mw_keep.specs.declared.kept.KeptRoom.{KeptRoom}
use Rattle.mw_script.specs.Commands.{Command}
use Rattle.mw_drive.specs.Drive.{Put, gone, overrun, message, text_put, is_crash, run, drive_text}

-- ---- lives

-- a life of a seed's room goes on in a room that is kept: nothing has stopped it, and its journal
-- takes further batches
pub record IsGoing {D : Type 0} (seed : Seed) (life : Life) (k : KeptRoom D) : Type 0 where
  pub seed_is : life.room.seed ≡ seed
  pub unstopped : life.stopped ≡ None
  pub whole : state_of (journal_of k) ≡ Whole

-- after a crash a room finds what its disk told, where the disk tells its bytes; a script without a
-- crash needs no disk that tells
abbrev pub FindsItself : Option (List ℕ) → List Command → Type 0
FindsItself told cs = IsTrue (is_some told) ⊎ IsFalse (list_any is_crash cs)

-- ---- what a run did alone

-- a session, which plays this slot, or none yet, took a message with some luck in a life to which
-- the steps come from a life, and which goes on since
pub record IsTaken (life : Life) (steps : List Step) (session : ℕ) (luck : Luck)
    (member : Option Member) (m : Message)
    : Type 0 where
  pub front : List Step
  pub back : List Step
  pub goes_on : steps ≡ front ++ taking session luck ∷ back
  pub passes : Passes (after_all life front) (takes session) luck
  pub plays : member_in (after_all life front).room.sessions session ≡ member
  pub taken : Contains (untaken_in (after_all life front) session) m

-- what is put of a message was taken so
abbrev pub IsPutFrom : Life → List Step → Put → Type 0
IsPutFrom life steps (gone session) = Unit {0}
IsPutFrom life steps (overrun session) = Unit {0}
IsPutFrom life steps (message session member m) = IsTaken life steps session fine member m

-- a run went on from a life, whatever one that is: what a crash may leave is settled for the life to
-- which its steps come, and what was put is a front of a text of messages that were taken in them
pub record KeepsFrom (images : List ℕ → Type 0) (digest : List ℕ) (life : Life)
    (old new : Option (List ℕ))
    : Type 0 where
  pub steps : List Step
  pub left : IsLeft images digest (after_all life steps)
  pub put : List Put
  pub front : PutsFront old new (text_put put)
  pub taken : All (IsPutFrom life steps) put

-- the records of a journal were found, and the run went on from the life that begins with them; or
-- none were, and then nothing was put, and what a crash may leave is as settled as it was
abbrev pub KeepsFound : (List Record → ℕ → Type 0) → Type 0 → (List ℕ → Type 0) → List ℕ → Seed
    → Option (List ℕ) → Option (List ℕ) → Type 0
KeepsFound found settled images digest seed old new =
    (settled × Keeps old new)
    ⊎ ((journal : List Record) × (place : ℕ) × found journal place
    × KeepsFrom images digest (new_life seed journal place) old new)

-- ---- what was put is kept

-- a session took a message in a life to which a run of lives came, which goes on since: the items of
-- each ReceivedItems of it are the tail from its index of what the session was to receive, and stand
-- there in the view of each later point; and each check that it shows is among those of the journal
-- of each later point, in this life and in later ones
pub record IsTold (seed : Seed) (steps : List Step) (session : ℕ) (member : Option Member)
    (m : Message) : Type 0 where
  pub front : List Step
  pub back : List Step
  pub goes_on : steps ≡ front ++ taking session fine ∷ back
  pub taken : Contains (untaken_in (life_after_all seed front) session) m
  pub tails : AreTails seed front session fine m
  pub shows : (later : List Step) (k : Member) → MayPlayAs k member
      → ShowsChecked seed (journal_after seed (steps ++ later)) k m

-- what is put of a message is told so
abbrev pub IsKept : Seed → List Step → Put → Type 0
IsKept seed steps (gone session) = Unit {0}
IsKept seed steps (overrun session) = Unit {0}
IsKept seed steps (message session member m) = IsTold seed steps session member m

-- what a crash may leave is settled for the life that a run of lives comes to, which goes on from
-- these steps; and what was put is a front of a text that keeps to it
pub record KeepsShown (images : List ℕ → Type 0) (digest : List ℕ) (seed : Seed) (steps : List Step)
    (old new : Option (List ℕ))
    : Type 0 where
  pub more : List Step
  pub left : IsLeft images digest (life_after_all seed (steps ++ more))
  pub put : List Put
  pub front : PutsFront old new (text_put put)
  pub kept : All (IsKept seed (steps ++ more)) put

-- ---- commands that are run on a life

-- all were done, and just their text was put; each image stands for just what is committed in the
-- life that they lead to
pub record HasDriven (images : List ℕ → Type 0) (digest : List ℕ) (life : Life) (cs : List Command)
    (old new : Option (List ℕ))
    : Type 0 where
  pub whole : IsFalse (run life cs).full
  pub put : Appends old new (drive_text life cs)
  pub place : ℕ
  pub stands : AllShut images digest (records_bytes (committed_of (run life cs).life)) place
