-- The whole life of a journal over which rooms are served too: a room that was made new, and then runs
-- of `drive` and of `serve` on it, in any order, each on what a crash may have left of the one before.
use Rattle.std.specs.Prelude.{◌≡◌, ℕ, List, [], Option, Some, None, Contains, IsTrue, is_some, length, take, drop}
use Rattle.std.specs.List.{AllByRecursion}
use Rattle.mw_causes.specs.Tables.{Files}
use Rattle.mw_edges.specs.Folders.{opened_bytes}
use Rattle.mw_journal.specs.Settled.{AllShut}
use Rattle.mw_keep.specs.Left.{IsLeft}
use Rattle.mw_laws.specs.Shows.{MayPlayAs, ShowsChecked}
use Rattle.mw_model.specs.Items.{NetItem}
use Rattle.mw_model.specs.Seed.{Seed}
use Rattle.mw_offline.specs.WholeLives.{AreKept, AreRuns, KeepsOn, KeepsRun, Run}
use Rattle.mw_protocol.specs.Asked.{view}
use Rattle.mw_protocol.specs.Connecting.{Member}
use Rattle.mw_protocol.specs.Lives.{Step, life_after_all}
use Rattle.mw_protocol.specs.Messages.{received_items}
use Rattle.mw_protocol.specs.Records.{Record}
use Rattle.mw_protocol.specs.Rooms.{Message, member_in, text_of}
use Rattle.mw_session.specs.declared.served.Served.{Served}
use Rattle.mw_serve.specs.Sent.{AreFirstOwed, KeepsSent}
use Rattle.mw_serve.specs.Taken.{WasTaken}

-- ---- what was sent

-- the journal keeps a message that a session took in the life to which these steps came: each check
-- that it shows is among the journal's; and the items of each ReceivedItems of it stand at its index in
-- what the session is to receive by the journal
pub record KeepsTaken (seed : Seed) (steps : List Step) (journal : List Record) (session : ℕ)
    (m : Message)
    : Type 0 where
  pub took : WasTaken seed steps session m
  pub shows : (k : Member)
      → MayPlayAs k (member_in (life_after_all seed took.front).room.sessions session)
      → ShowsChecked seed journal k m
  pub stand : (index : ℕ) (items : List NetItem)
      → (has : Contains m.packets (received_items index items))
      → items ≡ take (length items)
      (drop index (view seed (took.tails index items has).member.mask
      (took.tails index items has).member.team (took.tails index items has).member.slot journal))

-- a text is that of such a message
abbrev pub KeepsText : Seed → List Step → List Record → ℕ → List ℕ → Type 0
KeepsText seed steps journal session text =
    (m : Message) × (text ≡ text_of m) × KeepsTaken seed steps journal session m

-- so is each that was sent over a link, and they are the first of what its session was owed
abbrev pub KeepsTexts : Seed → List Step → List Record → Option ℕ → List (List ℕ) → Type 0
KeepsTexts seed steps journal None texts = texts ≡ []
KeepsTexts seed steps journal (Some session) texts =
    AllByRecursion (KeepsText seed steps journal session) texts
    × AreFirstOwed seed steps session texts

-- ---- runs

-- a run that served links, from one state of a folder to another
pub record ServedRun (F T : Type 0) : Type 0 where
  pub first : F
  pub last : F
  pub served : List (List (Served T))

pub data AnyRun (F T : Type 0) : Type 0 where
  drives : Run F → AnyRun F T
  serves : ServedRun F T → AnyRun F T

abbrev pub first_of : {F T : Type 0} → AnyRun F T → F
first_of (drives r) = r.first
first_of (serves r) = r.first

abbrev pub end_of_run : {F T : Type 0} → AnyRun F T → F
end_of_run (drives r) = r.last
end_of_run (serves r) = r.last

module _ {F T : Type 0} (holds : F → Files) (images : F → List ℕ → List ℕ → Type 0)
    (sent_by : T → List (List ℕ)) where
  -- what was shown by a run is kept. The clauses of `drive` and `serve` say so of each run that
  -- returned; of one that never did it is taken here, and the clauses of a kept room's calls say it
  -- of each call
  abbrev pub ShowsOn : List ℕ → Seed → List ℕ → AnyRun F T → Type 0
  ShowsOn digest seed name (drives r) = KeepsOn holds images digest seed name r
  ShowsOn digest seed name (serves r) =
      (steps : List Step) → IsTrue (is_some (opened_bytes (holds r.first name)))
      → IsLeft (images r.first name) digest (life_after_all seed steps)
      → KeepsSent sent_by (images r.last name) digest seed steps r.served

  -- the journal keeps what a run showed
  abbrev pub KeepsAny : Seed → List Step → List Record → AnyRun F T → Type 0
  KeepsAny seed steps journal (drives r) = KeepsRun seed steps journal r
  KeepsAny seed steps journal (serves r) =
      AllByRecursion (AllByRecursion
      (λ e. KeepsTexts seed steps journal e.session (sent_by e.line))) r.served

  -- after a `new-room` that made the file, and any runs on it
  abbrev pub AllRunsKeep : Type 0
  AllRunsKeep =
      (digest : List ℕ) (seed : Seed) (name : List ℕ) (made : F) (runs : List (AnyRun F T))
      → AllShut (images made name) digest [] 40
      → AreRuns holds images digest seed name first_of end_of_run (ShowsOn digest seed name) made
      runs
      → AreKept holds images digest seed name first_of end_of_run (KeepsAny seed) made runs
