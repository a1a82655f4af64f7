-- What sessions take over the lives of a room: messages that events of their life owed, and in these the tails of what their slots received.
use Rattle.std.specs.Prelude.{◌≡◌, ◌⊎◌, ℕ, ◌+◌, ◌≤◌, ◌++◌, ◌∷◌, [], List, Some, IsTrue, All, Contains, map, length, take, drop}
use Rattle.std.specs.List.{list_all}
use Rattle.mw_model.specs.Items.{NetItem}
use Rattle.mw_model.specs.Seed.{Seed}
use Rattle.mw_protocol.specs.Asked.{view}
use Rattle.mw_protocol.specs.Connecting.{Member}
use Rattle.mw_protocol.specs.Lives.{Life, happens, takes, Luck, messages, Step, acts, reply_to, life_after_all, untaken_in}
use Rattle.mw_protocol.specs.Messages.{room_info, received_items}
use Rattle.mw_protocol.specs.Players.{room_info_of}
use Rattle.mw_protocol.specs.Rooms.{Message, Session, Room, Event, opened, sent, failed, lost, text_of, session_in, next}
use Rattle.mw_laws.specs.Kept.{Passes, is_call, journal_after, committed_after}
use Rattle.mw_laws.specs.Turns.{member_then, owed_by}

-- an event that passed in the life that a run comes to: before it come any steps, and after it calls alone
pub record Passed (seed : Seed) (steps : List Step) : Type 0 where
  pub before : List Step
  pub event : Event
  pub luck : Luck
  pub later : List Step
  pub run : steps ≡ before ++ acts (happens event) luck ∷ later
  pub calls : IsTrue (list_all is_call later)
  pub passes : Passes (life_after_all seed before) (happens event) luck

-- ---- what an event owes to the session of a number

-- RoomInfo, if it opens it
abbrev pub Greets : Room → Event → ℕ → Message → Type 0
Greets room (opened time) number message =
    (number ≡ room.opened + 1)
    × (message ≡ record {
      packets = room_info (room_info_of room.seed time) ∷ [];
      carries = length room.journal;
    })
Greets room (sent sender packet) number message = ⊥
Greets room (failed sender bad) number message = ⊥
Greets room (lost sender) number message = ⊥

-- what it owes a session that is open before it, with the journal's length after it
pub record Tells (room : Room) (event : Event) (number : ℕ) (message : Message) : Type 0 where
  pub session : Session
  pub found : session_in room.sessions number ≡ Some session
  pub is : message
      ≡ record { packets = owed_by room event session; carries = length (next room event).journal }

abbrev pub Owes : Room → Event → ℕ → Message → Type 0
Owes room event number message = Greets room event number message ⊎ Tells room event number message

abbrev pub WasOwed : Seed → List Step → ℕ → Message → Type 0
WasOwed seed steps number message =
    (point : Passed seed steps)
    × Owes (life_after_all seed point.before).room point.event number message

-- ---- what a session takes

-- a session takes its messages
abbrev pub taking : ℕ → Luck → Step
taking number luck = acts (takes number) luck

-- in any life of any run, all that a session was owed, and so all that it takes, was owed to it by events that passed in this life; it takes these messages' texts; none carries more than the journal's length, and none that it takes more than is then committed
pub record TakenWasOwed : Type 0 where
  pub owed : (seed : Seed) (steps : List Step) (number : ℕ) (s : Session)
      → session_in (life_after_all seed steps).room.sessions number ≡ Some s
      → All (WasOwed seed steps number) s.owed
  pub taken : (seed : Seed) (steps : List Step) (number : ℕ)
      → All (WasOwed seed steps number) (untaken_in (life_after_all seed steps) number)
  pub texts : (life : Life) (number : ℕ) (luck : Luck) (texts : List (List ℕ))
      → reply_to life (takes number) luck ≡ messages texts
      → texts ≡ map text_of (untaken_in life number)
  pub carries : (seed : Seed) (steps : List Step) (number : ℕ)
      → All (λ m. m.carries ≤ length (journal_after seed steps))
      (untaken_in (life_after_all seed steps) number)
  pub committed : (seed : Seed) (steps : List Step) (number : ℕ) (luck : Luck)
      → Passes (life_after_all seed steps) (takes number) luck
      → All (λ m. m.carries ≤ committed_after seed (steps ++ taking number luck ∷ []))
      (untaken_in (life_after_all seed steps) number)

-- ---- tails

-- items from an index on that a message tells the session of a number, which takes it with some luck
pub record IsTail (seed : Seed) (steps : List Step) (number : ℕ) (luck : Luck) (message : Message)
    (index : ℕ) (items : List NetItem) : Type 0 where
  -- the event that owed the message, and the member that the session then was
  pub point : Passed seed steps
  pub told : Tells (life_after_all seed point.before).room point.event number message
  pub member : Member
  pub plays : member_then (life_after_all seed point.before).room point.event told.session
      ≡ Some member
  -- they are the tail, from the index on, of its view after that event
  pub own : items
      ≡ drop index (view seed member.mask member.team member.slot
      (journal_after seed (point.before ++ acts (happens point.event) point.luck ∷ [])))
  -- and stand at the index in its view by the journal of each point of the run since it took them, in this life and in later ones
  pub last : (more : List Step)
      → items ≡ take (length items)
      (drop index (view seed member.mask member.team member.slot
      (journal_after seed (steps ++ taking number luck ∷ more))))

-- so it is for each ReceivedItems of a message
abbrev pub AreTails : Seed → List Step → ℕ → Luck → Message → Type 0
AreTails seed steps number luck message =
    (index : ℕ) (items : List NetItem) → Contains message.packets (received_items index items)
    → IsTail seed steps number luck message index items

-- the items that an event owes which passes are such tails as long as its life goes on; those of each message that a session takes, in any life of any run, are it in later lives too
pub record TailsOfTheLastView : Type 0 where
  -- to a session that is open before it, and then this member: by the journal of each later point of the life
  pub owed : (seed : Seed) (before more : List Step) (event : Event) (luck : Luck) (number : ℕ)
      (s : Session) (m : Member) (index : ℕ) (items : List NetItem)
      → Passes (life_after_all seed before) (happens event) luck
      → session_in (life_after_all seed before).room.sessions number ≡ Some s
      → member_then (life_after_all seed before).room event s ≡ Some m
      → Contains (owed_by (life_after_all seed before).room event s) (received_items index items)
      → IsTrue (list_all is_call more)
      → items ≡ take (length items)
      (drop index (view seed m.mask m.team m.slot
      (journal_after seed (before ++ acts (happens event) luck ∷ more))))
  pub taken : (seed : Seed) (steps : List Step) (number : ℕ) (luck : Luck)
      → Passes (life_after_all seed steps) (takes number) luck
      → All (AreTails seed steps number luck) (untaken_in (life_after_all seed steps) number)
