-- That what a session takes is what it was owed, from the first message on.
use Rattle.std.specs.Prelude.{◌≡◌, ◌≢◌, ℕ, List, [], ◌∷◌, ◌++◌, Option, None, Some, map, take}
use Rattle.std.specs.List.{AllByRecursion}
use mathlib.Core.List.{IsPrefix}
use Rattle.mw_model.specs.Seed.{Seed}
use Rattle.mw_protocol.specs.Lives.{Life, Luck, new_life}
use Rattle.mw_protocol.specs.Records.{Record}
use Rattle.mw_protocol.specs.Rooms.{Session, session_in, text_of}
use Rattle.mw_lock.specs.declared.view.Entry.{Entry}
use Rattle.mw_lock.specs.History.{events}
use Rattle.mw_keep.specs.Standing.{Began, Replied, lived}
use Rattle.mw_keep.specs.declared.call.Call.{Call}
use Rattle.mw_keep.specs.declared.call.Call.TheVariants.{Open, Packet, Bad, Lost, Commit, Take}
use Rattle.mw_keep.specs.declared.kept.Origin.{Origin}
use Rattle.mw_keep.specs.declared.reply.Reply.{Reply}
use Rattle.mw_session.specs.Answered.{taken_by}
use Rattle.mw_session.specs.Passes.{Makes, RoomPass}
use Rattle.mw_session.specs.declared.served.Served.{Served}

-- at some point of a history of calls the session of a number is open, and these are the texts of
-- the messages that it has taken: the first of all that it was owed up to there
pub record HasTaken (life : Life) (log : List (Call × Reply)) (lucks : List Luck) (session : ℕ)
    (texts : List (List ℕ)) : Type 0 where
  pub front : List (Call × Reply)
  pub back : List (Call × Reply)
  pub point : log ≡ front ++ back
  pub s : Session
  pub found : session_in (lived life front lucks).room.sessions session ≡ Some s
  pub is : texts ≡ map text_of (take s.taken s.owed)

-- the call neither takes the messages of this session nor ends it
abbrev pub Spares : ℕ → Call → Type 0
Spares session (Open time) = Unit {0}
Spares session (Packet n packet) = Unit {0}
Spares session (Bad n bad) = Unit {0}
Spares session (Lost n) = n ≢ session
Spares session Commit = Unit {0}
Spares session (Take n) = n ≢ session

-- so it is with the calls of all passes but the one of a number
abbrev pub OthersSpare : ℕ → ℕ → List (Entry Call Reply) → Type 0
OthersSpare session number [] = Unit {0}
OthersSpare session number (e ∷ es) =
    (e.by ≢ number → Spares session e.call) × OthersSpare session number es

-- what the pass's session took are the first of the messages that it was owed in the history that
-- the pass has seen, where no other pass takes its messages or ends it
abbrev pub TakesFirst : {D : Type 0} → (D → List ℕ → Type 0) → RoomPass (Option (Origin D)) → ℕ
    → List (List ℕ) → Type 0
TakesFirst may_leave w session texts =
    (digest : List ℕ) (seed : Seed) (journal : List Record) (place : ℕ) (origin : Origin _)
    → w.base ≡ Some origin → Began may_leave digest seed journal place origin
    → OthersSpare session w.number w.seen
    → (lucks : List Luck) × Replied (new_life seed journal place) (events w.seen) lucks
    × HasTaken (new_life seed journal place) (events w.seen) lucks session texts

-- so it is with the session that the pass served from one state to the other, if it served one
abbrev pub ServesOwed : {D : Type 0} → (D → List ℕ → Type 0) → RoomPass (Option (Origin D))
    → Option ℕ → RoomPass (Option (Origin D)) → Type 0
ServesOwed may_leave v None w = Unit {0}
ServesOwed may_leave v (Some session) w =
    (calls : List (Call × Reply)) × Makes v calls w
    × TakesFirst may_leave w session (taken_by calls)

-- ---- links that were served

-- what was sent over a link are the first of the messages that its session took
abbrev pub SendsFirst : Life → List (Call × Reply) → List Luck → Option ℕ → List (List ℕ) → Type 0
SendsFirst life log lucks None sent = sent ≡ []
SendsFirst life log lucks (Some session) sent =
    (texts : List (List ℕ)) × IsPrefix sent texts × HasTaken life log lucks session texts

module _ {T : Type 0} (sent_by : T → List (List ℕ)) (life : Life) (log : List (Call × Reply))
    (lucks : List Luck) where
  -- so it is of each link of a worker, and of all workers
  abbrev pub LinesFirst : List (Served T) → Type 0
  LinesFirst es = AllByRecursion (λ e. SendsFirst life log lucks e.session (sent_by e.line)) es

  abbrev pub AllFirst : List (List (Served T)) → Type 0
  AllFirst served = AllByRecursion LinesFirst served
