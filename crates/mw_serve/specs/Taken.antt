-- A message that a session took, over the lives of a room.
use Rattle.std.specs.Prelude.{◌≡◌, ℕ, ◌++◌, ◌∷◌, List, Contains}
use Rattle.mw_model.specs.Seed.{Seed}
use Rattle.mw_protocol.specs.Connecting.{Member}
use Rattle.mw_protocol.specs.Lives.{Luck, Step, life_after_all, untaken_in}
use Rattle.mw_protocol.specs.Rooms.{Message, member_in, text_of}
use Rattle.mw_laws.specs.Kept.{journal_after}
use Rattle.mw_laws.specs.Shows.{MayPlayAs, ShowsChecked}
use Rattle.mw_laws.specs.Tails.{AreTails, taking}

-- a session took a message in a life to which a run of lives came, which goes on since: the items of
-- each ReceivedItems of it are the tail from its index of what the session was to receive, and stand
-- there in the view of each later point; and each check that it shows is among those of the journal
-- of each later point, in this life and in later ones
pub record WasTaken (seed : Seed) (steps : List Step) (session : ℕ) (m : Message) : Type 0 where
  pub front : List Step
  pub luck : Luck
  pub back : List Step
  pub goes_on : steps ≡ front ++ taking session luck ∷ back
  pub taken : Contains (untaken_in (life_after_all seed front) session) m
  pub tails : AreTails seed front session luck m
  pub shows : (later : List Step) (k : Member)
      → MayPlayAs k (member_in (life_after_all seed front).room.sessions session)
      → ShowsChecked seed (journal_after seed (steps ++ later)) k m

-- a text is that of a message that a session took
abbrev pub IsOfTaken : Seed → List Step → ℕ → List ℕ → Type 0
IsOfTaken seed steps session text =
    (m : Message) × (text ≡ text_of m) × WasTaken seed steps session m
