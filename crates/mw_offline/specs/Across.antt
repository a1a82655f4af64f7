-- What was taken over runs of lives with checkpoints between them, and that it is kept.
use Rattle.std.specs.Prelude.{◌≡◌, ◌++◌, ℕ, List, Option, All, Contains}
use Rattle.mw_edges.specs.Causes.{PutsFront}
use Rattle.mw_model.specs.Seed.{Seed}
use Rattle.mw_protocol.specs.Connecting.{Member}
use Rattle.mw_protocol.specs.Lives.{Luck, fine, untaken_in}
use Rattle.mw_protocol.specs.Rooms.{Message, member_in}
use Rattle.mw_laws.specs.Shows.{MayPlayAs, ShowsChecked}
use Rattle.mw_thinning.specs.Across.{AreTails, took}
use Rattle.mw_thinning.specs.Checkpoints.{Step, journal_after, life_after_all}
use Rattle.mw_keep.specs.Left.{IsLeft}
use Rattle.mw_drive.specs.Drive.{Put, gone, overrun, message, text_put}

-- a session, which plays this slot, or none yet, took a message with some luck in a life to which a
-- run of lives came, with checkpoints between them, and which goes on since: the items of each
-- ReceivedItems of it are the tail from its index of what the session was to receive, and stand
-- there in the view of each later point; and each check that it shows is among those of the journal
-- of each later point, in this life and in later ones, and behind each checkpoint
pub record IsToldAcross (seed : Seed) (steps : List Step) (session : ℕ) (luck : Luck)
    (member : Option Member) (m : Message)
    : Type 0 where
  pub front : List Step
  pub back : List Step
  pub goes_on : steps ≡ took front session luck back
  pub plays : member_in (life_after_all seed front).room.sessions session ≡ member
  pub taken : Contains (untaken_in (life_after_all seed front) session) m
  pub tails : AreTails seed front session luck m
  pub shows : (later : List Step) (k : Member) → MayPlayAs k member
      → ShowsChecked seed (journal_after seed (steps ++ later)) k m

-- what is put of a message is told so
abbrev pub IsKeptAcross : Seed → List Step → Put → Type 0
IsKeptAcross seed steps (gone session) = Unit {0}
IsKeptAcross seed steps (overrun session) = Unit {0}
IsKeptAcross seed steps (message session member m) =
    IsToldAcross seed steps session fine member m

-- what a crash may leave is settled for the life that such a run comes to, which goes on from these
-- steps; and what was put is a front of a text that keeps to it
pub record KeepsAcross (images : List ℕ → Type 0) (digest : List ℕ) (seed : Seed)
    (steps : List Step) (old new : Option (List ℕ))
    : Type 0 where
  pub more : List Step
  pub left : IsLeft images digest (life_after_all seed (steps ++ more))
  pub put : List Put
  pub front : PutsFront old new (text_put put)
  pub kept : All (IsKeptAcross seed (steps ++ more)) put
