-- What was sent over links in runs of lives with checkpoints between them, and that it is kept.
use Rattle.std.specs.Prelude.{◌≡◌, ℕ, ◌++◌, List, [], Option, Some, None, map}
use Rattle.std.specs.List.{AllByRecursion}
use mathlib.Core.List.{IsPrefix}
use Rattle.mw_model.specs.Seed.{Seed}
use Rattle.mw_protocol.specs.Connecting.{Member}
use Rattle.mw_protocol.specs.Lives.{Luck}
use Rattle.mw_protocol.specs.Rooms.{Message, Session, session_in, text_of}
use Rattle.mw_thinning.specs.Checkpoints.{Step, life_after_all}
use Rattle.mw_keep.specs.Left.{IsLeft}
use Rattle.mw_session.specs.declared.served.Served.{Served}
use Rattle.mw_offline.specs.Across.{IsToldAcross}

-- a text is that of a message that a session took, and which is kept across checkpoints
abbrev pub IsSentAcross : Seed → List Step → ℕ → List ℕ → Type 0
IsSentAcross seed steps session text =
    (luck : Luck) × (member : Option Member) × (m : Message) × (text ≡ text_of m)
    × IsToldAcross seed steps session luck member m

-- a session is open at a point of a run of lives, and these texts are those of the first of all
-- messages that it was owed up to there
pub record AreFirstAcross (seed : Seed) (steps : List Step) (session : ℕ) (texts : List (List ℕ))
    : Type 0 where
  pub front : List Step
  pub back : List Step
  pub point : steps ≡ front ++ back
  pub s : Session
  pub found : session_in (life_after_all seed front).room.sessions session ≡ Some s
  pub first : IsPrefix texts (map text_of s.owed)

-- these texts were sent over a link; where no session was opened over it, none was
abbrev pub AreSentAcross : Seed → List Step → Option ℕ → List (List ℕ) → Type 0
AreSentAcross seed steps None texts = texts ≡ []
AreSentAcross seed steps (Some session) texts =
    AllByRecursion (IsSentAcross seed steps session) texts
    × AreFirstAcross seed steps session texts

module _ {T : Type 0} (sent_by : T → List (List ℕ)) where
  -- so it is of all that was sent over the links of all workers
  abbrev pub AllAcross : Seed → List Step → List (List (Served T)) → Type 0
  AllAcross seed steps served =
      AllByRecursion (AllByRecursion (λ e. AreSentAcross seed steps e.session (sent_by e.line)))
      served

  -- what a crash may leave is settled for the life that such a run comes to, which goes on from
  -- these steps; and what was sent over each link keeps to it
  pub record SendsAcross (images : List ℕ → Type 0) (digest : List ℕ) (seed : Seed)
      (steps : List Step) (served : List (List (Served T)))
      : Type 0 where
    pub more : List Step
    pub settled : IsLeft images digest (life_after_all seed (steps ++ more))
    pub sent : AllAcross seed (steps ++ more) served
