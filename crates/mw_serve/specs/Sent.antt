-- What was sent over links, and that it is kept.
use Rattle.std.specs.Prelude.{◌≡◌, ◌⊎◌, ℕ, ◌++◌, List, [], Option, Some, None, map}
use Rattle.std.specs.List.{AllByRecursion}
use mathlib.Core.List.{IsPrefix}
use Rattle.mw_model.specs.Seed.{Seed}
use Rattle.mw_protocol.specs.Connecting.{Member}
use Rattle.mw_protocol.specs.Lives.{Life, Luck, Step, after_all, life_after_all, new_life}
use Rattle.mw_protocol.specs.Records.{Record}
use Rattle.mw_protocol.specs.Rooms.{Message, Session, session_in, text_of}
use Rattle.mw_keep.specs.Left.{IsLeft}
use Rattle.mw_session.specs.declared.served.Served.{Served}
use Rattle.mw_drive.specs.Left.{IsTaken}
use Rattle.mw_serve.specs.Taken.{IsOfTaken}

-- ---- what a run did alone

-- a text is that of a message that a session took, with some luck, in steps from a life
abbrev pub IsSentFrom : Life → List Step → ℕ → List ℕ → Type 0
IsSentFrom life steps session text =
    (luck : Luck) × (member : Option Member) × (m : Message) × (text ≡ text_of m)
    × IsTaken life steps session luck member m

-- a session is open at a point of these steps, and these texts are those of the first of all
-- messages that it was owed up to there
pub record AreFirstFrom (life : Life) (steps : List Step) (session : ℕ) (texts : List (List ℕ))
    : Type 0 where
  pub front : List Step
  pub back : List Step
  pub point : steps ≡ front ++ back
  pub s : Session
  pub found : session_in (after_all life front).room.sessions session ≡ Some s
  pub first : IsPrefix texts (map text_of s.owed)

-- these texts were sent over a link; where no session was opened over it, none was
abbrev pub AreSentFrom : Life → List Step → Option ℕ → List (List ℕ) → Type 0
AreSentFrom life steps None texts = texts ≡ []
AreSentFrom life steps (Some session) texts =
    AllByRecursion (IsSentFrom life steps session) texts × AreFirstFrom life steps session texts

-- ---- in a life to which a run of lives came

-- a session is open at a point of a run of lives, and these texts are those of the first of all
-- messages that it was owed up to there
pub record AreFirstOwed (seed : Seed) (steps : List Step) (session : ℕ) (texts : List (List ℕ))
    : Type 0 where
  pub front : List Step
  pub back : List Step
  pub point : steps ≡ front ++ back
  pub s : Session
  pub found : session_in (life_after_all seed front).room.sessions session ≡ Some s
  pub first : IsPrefix texts (map text_of s.owed)

-- these texts were sent over a link; where no session was opened over it, none was
abbrev pub AreOfTaken : Seed → List Step → Option ℕ → List (List ℕ) → Type 0
AreOfTaken seed steps None texts = texts ≡ []
AreOfTaken seed steps (Some session) texts =
    AllByRecursion (IsOfTaken seed steps session) texts × AreFirstOwed seed steps session texts

module _ {T : Type 0} (sent_by : T → List (List ℕ)) where
  -- so it is of all that was sent over the links of all workers
  abbrev pub AllFrom : Life → List Step → List (List (Served T)) → Type 0
  AllFrom life steps served =
      AllByRecursion (AllByRecursion (λ e. AreSentFrom life steps e.session (sent_by e.line)))
      served

  -- a run went on from a life, whatever one that is: what a crash may leave is settled for the life
  -- to which its steps come, and what was sent over each link are the texts of messages that its
  -- session took in them, the first of all that it was owed
  pub record SendsFrom (images : List ℕ → Type 0) (digest : List ℕ) (life : Life)
      (served : List (List (Served T)))
      : Type 0 where
    pub steps : List Step
    pub left : IsLeft images digest (after_all life steps)
    pub sent : AllFrom life steps served

  -- the records of a journal were found, and the run went on from the life that begins with them; or
  -- nothing was served, and what a crash may leave is as settled as it was
  abbrev pub SendsFound : (List Record → ℕ → Type 0) → Type 0 → (List ℕ → Type 0) → List ℕ → Seed
      → List (List (Served T)) → Type 0
  SendsFound found settled images digest seed served =
      (settled × (served ≡ []))
      ⊎ ((journal : List Record) × (place : ℕ) × found journal place
      × SendsFrom images digest (new_life seed journal place) served)

  -- so it is of all that was sent over a link, over the links of a worker, and over those of all
  abbrev pub LineKeeps : Seed → List Step → Served T → Type 0
  LineKeeps seed steps e = AreOfTaken seed steps e.session (sent_by e.line)

  abbrev pub LinesKeep : Seed → List Step → List (Served T) → Type 0
  LinesKeep seed steps es = AllByRecursion (LineKeeps seed steps) es

  abbrev pub AllKeep : Seed → List Step → List (List (Served T)) → Type 0
  AllKeep seed steps served = AllByRecursion (LinesKeep seed steps) served

  -- what a crash may leave is settled for the life that a run of lives comes to, which goes on from
  -- these steps; and what was sent over each link are the texts of messages that its session took in
  -- it, the first of all that it was owed
  pub record KeepsSent (images : List ℕ → Type 0) (digest : List ℕ) (seed : Seed)
      (steps : List Step) (served : List (List (Served T)))
      : Type 0 where
    pub more : List Step
    pub settled : IsLeft images digest (life_after_all seed (steps ++ more))
    pub sent : AllKeep seed (steps ++ more) served
