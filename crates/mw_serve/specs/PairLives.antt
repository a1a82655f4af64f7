-- The whole life of a pair room: one that was made new, and then runs of `drive --pair`, of
-- `serve --pair` and of `thin` on it, in any order, each on what a crash may have left of the one
-- before.
use Rattle.std.specs.Prelude.{◌≡◌, ◌∷◌, ℕ, List, Bool, Option, Some, None, Ok, All, Contains, IsTrue, is_some, length, take, drop, []}
use Rattle.std.specs.List.{AllByRecursion}
use Rattle.mw_causes.specs.Tables.{Files}
use Rattle.mw_drive.specs.Drive.{Put, gone, overrun, message, text_put}
use Rattle.mw_drive.specs.Ends.{IsFound}
use Rattle.mw_edges.specs.Causes.{PutsFront}
use Rattle.mw_edges.specs.Folders.{opened_bytes}
use Rattle.mw_journal.specs.Settled.{AllShut}
use Rattle.mw_laws.specs.Items.{NoItemTwice}
use Rattle.mw_laws.specs.Shows.{MayPlayAs, ShowsChecked}
use Rattle.mw_link.specs.declared.link.Heard.{Heard}
use Rattle.mw_model.specs.Items.{NetItem}
use Rattle.mw_model.specs.Seed.{Seed}
use Rattle.mw_multidata.specs.Digest.{digest_of}
use Rattle.mw_multidata.specs.SeedOf.{SeedOf}
use Rattle.mw_offline.specs.Across.{IsToldAcross}
use Rattle.mw_offline.specs.FilesAround.{FilesAround, files_around}
use Rattle.mw_offline.specs.PairDriving.{PairDriveKeeps}
use Rattle.mw_offline.specs.ThinRuns.{ThinKeeps}
use Rattle.mw_offline.specs.WholeLives.{Run}
use Rattle.mw_pair.specs.Choosing.{NamesJournal}
use Rattle.mw_pair.specs.Names.{IsOneOf, journal_name}
use Rattle.mw_protocol.specs.Asked.{view}
use Rattle.mw_protocol.specs.Connecting.{Member}
use Rattle.mw_protocol.specs.Lives.{Luck, fine}
use Rattle.mw_protocol.specs.Messages.{received_items}
use Rattle.mw_protocol.specs.Records.{Record}
use Rattle.mw_protocol.specs.Rooms.{Message, text_of}
use Rattle.mw_thinning.specs.Checkpoints.{Step}
use Rattle.mw_words.specs.declared.command_line.ServeWords.{ServeWords}
use Rattle.mw_serve.specs.Accepting.{AcceptsPair}
use Rattle.mw_serve.specs.Across.{AreFirstAcross}
use Rattle.mw_serve.specs.PairServing.{PairServeKeeps}
use Rattle.mw_serve.specs.WholeLives.{ServedRun}

-- ---- what was shown

-- the journal keeps a message that a session took in the life to which these steps came: each check
-- that it shows is among the journal's; and the items of each ReceivedItems of it stand at its index
-- in what the session is to receive by the journal
pub record KeepsMessageAcross (seed : Seed) (steps : List Step) (journal : List Record)
    (session : ℕ) (luck : Luck) (member : Option Member) (m : Message)
    : Type 0 where
  pub told : IsToldAcross seed steps session luck member m
  pub shows : (k : Member) → MayPlayAs k member → ShowsChecked seed journal k m
  pub stand : (index : ℕ) (items : List NetItem)
      → (has : Contains m.packets (received_items index items))
      → items ≡ take (length items)
      (drop index (view seed (told.tails index items has).tail.member.mask
      (told.tails index items has).tail.member.team
      (told.tails index items has).tail.member.slot journal))

abbrev pub KeepsPutAcross : Seed → List Step → List Record → Put → Type 0
KeepsPutAcross seed steps journal (gone session) = Unit {0}
KeepsPutAcross seed steps journal (overrun session) = Unit {0}
KeepsPutAcross seed steps journal (message session member m) =
    KeepsMessageAcross seed steps journal session fine member m

-- what a script's run put is a front of a text that the journal keeps
pub record KeepsPutOf (seed : Seed) (steps : List Step) (journal : List Record)
    (old new : Option (List ℕ))
    : Type 0 where
  pub put : List Put
  pub front : PutsFront old new (text_put put)
  pub kept : All (KeepsPutAcross seed steps journal) put

-- a text is that of such a message
abbrev pub KeepsTextAcross : Seed → List Step → List Record → ℕ → List ℕ → Type 0
KeepsTextAcross seed steps journal session text =
    (luck : Luck) × (member : Option Member) × (m : Message) × (text ≡ text_of m)
    × KeepsMessageAcross seed steps journal session luck member m

-- so is each that was sent over a link, and they are the first of what its session was owed
abbrev pub KeepsTextsAcross : Seed → List Step → List Record → Option ℕ → List (List ℕ) → Type 0
KeepsTextsAcross seed steps journal None texts = texts ≡ []
KeepsTextsAcross seed steps journal (Some session) texts =
    AllByRecursion (KeepsTextAcross seed steps journal session) texts
    × AreFirstAcross seed steps session texts

-- ---- runs

pub data PairRun (F T : Type 0) : Type 0 where
  -- of `drive --pair`, from one state of a folder to another, with what the out sink held
  plays : Run F → PairRun F T
  -- of `serve --pair`, with its words and what it served
  hosts : ServeWords → ServedRun F T → PairRun F T
  -- of `thin`
  checks : F → F → PairRun F T

abbrev pub first_of : {F T : Type 0} → PairRun F T → F
first_of (plays r) = r.first
first_of (hosts named r) = r.first
first_of (checks first last) = first

abbrev pub end_of : {F T : Type 0} → PairRun F T → F
end_of (plays r) = r.last
end_of (hosts named r) = r.last
end_of (checks first last) = last

-- a folder that tells so what its files hold, what a crash may leave of them, and which are open as
-- disks, and links that tell so what was heard and sent; the names of the seed file and of CHOICE
module _ {F T D : Type 0} (holds : F → Files) (images : F → List ℕ → List ℕ → Type 0)
    (is_open : F → List ℕ → Bool) (may_fail : F → Bool) (faults : F → ℕ)
    (heard_by : T → List Heard) (sent_by : T → List (List ℕ)) (line_faults : T → ℕ)
    (opened : T → ℕ) (is_shut : T → Bool) (may_leave : D → List ℕ → Type 0)
    (multidata choice : List ℕ)
  where
    -- the folder tells the three files, and of them only what a crash may have left before
    pub record GoesOnFrom (before next : F) : Type 0 where
      pub told : (n : List ℕ) → IsOneOf choice n → IsTrue (is_some (opened_bytes (holds next n)))
      pub fewer : (n : List ℕ) → IsOneOf choice n → (c : List ℕ) → images next n c
          → images before n c

    abbrev pub Around : F → F → FilesAround
    Around first last = files_around holds images is_open may_fail faults first last

    -- what a run keeps, which is the clause of its command where it returned: `kept` of
    -- `cmd_drive` and `cmd_serve` on a pair room, `keeps` of `cmd_thin`
    abbrev pub ShowsOn : PairRun F T → Type 0
    ShowsOn (plays r) = PairDriveKeeps (Around r.first r.last) multidata choice r.old r.new
    ShowsOn (hosts named r) = (named.multidata ≡ multidata) × (named.journal ≡ choice)
        × PairServeKeeps heard_by sent_by line_faults opened is_shut may_leave
        (Around r.first r.last) named r.served
    ShowsOn (checks first last) =
        ThinKeeps (Around first last) (record { multidata = multidata; choice = choice })

    -- each goes on from the one before, and its folder tells the seed file
    abbrev pub AreRuns : List ℕ → F → List (PairRun F T) → Type 0
    AreRuns bytes folder [] = Unit {0}
    AreRuns bytes folder (r ∷ rs) =
        GoesOnFrom folder (first_of r) × (holds (first_of r) multidata ≡ Some (Some bytes))
        × ShowsOn r × AreRuns bytes (end_of r) rs

    abbrev pub last_of : F → List (PairRun F T) → F
    last_of folder [] = folder
    last_of folder (r ∷ rs) = last_of (end_of r) rs

    -- the journal keeps what a run showed
    abbrev pub KeepsPairRun : Seed → List Step → List Record → PairRun F T → Type 0
    KeepsPairRun seed steps journal (plays r) = KeepsPutOf seed steps journal r.old r.new
    KeepsPairRun seed steps journal (hosts named r) =
        AllByRecursion (AllByRecursion
        (λ e. KeepsTextsAcross seed steps journal e.session (sent_by e.line))) r.served
    KeepsPairRun seed steps journal (checks first last) = Unit {0}

    -- some steps of lives, with checkpoints between them, came of the runs; whatever journal a
    -- later run finds by CHOICE, it keeps what each run showed, and gives no item twice; and no
    -- later run refuses CHOICE, or the journal that it names
    pub record ArePairKept (seed : Seed) (digest : List ℕ) (folder : F)
        (runs : List (PairRun F T))
        : Type 0 where
      pub steps : List Step
      pub kept : (next : F) (number : ℕ) (journal : List Record) (place : ℕ)
          → GoesOnFrom (last_of folder runs) next
          → NamesJournal (opened_bytes (holds next choice)) (images next choice) digest number
          → IsFound (opened_bytes (holds next (journal_name choice number)))
          (images next (journal_name choice number)) digest seed journal place
          → AllByRecursion (KeepsPairRun seed steps journal) runs × NoItemTwice seed journal
      pub accepted : (next : F) → GoesOnFrom (last_of folder runs) next
          → AcceptsPair (holds next) (images next) choice digest seed

    -- after a `new-room --pair` that made the three files, and any runs on them
    abbrev pub PairRoomsKeep : Type 0
    PairRoomsKeep =
        (bytes : List ℕ) (seed : Seed) (made : F) (runs : List (PairRun F T))
        → SeedOf bytes (Ok seed)
        → ((n : List ℕ) → IsOneOf choice n → AllShut (images made n) (digest_of bytes) [] 40)
        → AreRuns bytes made runs
        → ArePairKept seed (digest_of bytes) made runs
