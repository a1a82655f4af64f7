-- What is shown to a session is kept.
use Rattle.std.specs.Prelude.{◌≡◌, ℕ, ◌++◌, ◌∷◌, List, Option, Some, None, IsTrue, All, Contains}
use Rattle.std.specs.List.{list_all}
use Rattle.mw_model.specs.Seed.{Seed}
use Rattle.mw_protocol.specs.Asked.{checked}
use Rattle.mw_protocol.specs.Connecting.{Member}
use Rattle.mw_protocol.specs.Lives.{Luck, takes, Step, life_after_all, untaken_in}
use Rattle.mw_protocol.specs.Records.{Record}
use Rattle.mw_protocol.specs.Rooms.{Message, Session, session_in, member_in}
use Rattle.mw_protocol.specs.Shown.{shown}
use Rattle.mw_laws.specs.Kept.{Passes, is_call, journal_after}
use Rattle.mw_laws.specs.Tails.{taking}

-- it plays the same slot of the same team, or none yet
abbrev pub MayPlayAs : Member → Option Member → Type 0
MayPlayAs m None = Unit {0}
MayPlayAs m (Some k) = (k.team ≡ m.team) × (k.slot ≡ m.slot)

-- each check that a message shows to such a member is among those of a journal
abbrev pub ShowsChecked : Seed → List Record → Member → Message → Type 0
ShowsChecked seed journal m message = All (Contains (checked seed journal)) (shown m message)

-- in any life of any run, what is shown by the messages that a session was owed is checked by the journal of each later point of that life; and by those that it takes, by the journal of each later point of the run, in this life and in later ones
pub record ShownIsChecked : Type 0 where
  pub owed : (seed : Seed) (steps : List Step) (number : ℕ) (s : Session) (m : Member)
      → session_in (life_after_all seed steps).room.sessions number ≡ Some s → MayPlayAs m s.member
      → (more : List Step) → IsTrue (list_all is_call more)
      → All (ShowsChecked seed (journal_after seed (steps ++ more)) m) s.owed
  pub taken : (seed : Seed) (steps : List Step) (number : ℕ) (luck : Luck) (m : Member)
      → Passes (life_after_all seed steps) (takes number) luck
      → MayPlayAs m (member_in (life_after_all seed steps).room.sessions number)
      → (more : List Step)
      → All (ShowsChecked seed (journal_after seed (steps ++ taking number luck ∷ more)) m)
      (untaken_in (life_after_all seed steps) number)
