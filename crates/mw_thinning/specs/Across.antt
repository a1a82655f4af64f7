-- What the laws of lives say of runs with checkpoints.
use Rattle.std.specs.Prelude.{◌≡◌, ◌⊎◌, ℕ, ◌+◌, ◌≤◌, List, ◌∷◌, [], ◌++◌, Bool, Some, IsTrue, IsFalse, All, Contains, length, take, drop}
use Rattle.std.specs.List.{list_all}
use Rattle.mw_model.specs.Items.{NetItem}
use Rattle.mw_model.specs.Seed.{Seed}
use Rattle.mw_protocol.specs.Asked.{view}
use Rattle.mw_protocol.specs.Connecting.{Member}
use Rattle.mw_protocol.specs.Lives.{Luck, takes, untaken_in}
use Rattle.mw_protocol.specs.Messages.{received_items}
use Rattle.mw_protocol.specs.Rooms.{Message, Session, session_in, member_in}
use Rattle.mw_laws.specs.Applied.{IsFrontOf, applied_messages, has_items, having, owed_of}
use Rattle.mw_laws.specs.Kept as plain
use Rattle.mw_laws.specs.Kept.{Passes}
use Rattle.mw_laws.specs.Shows.{MayPlayAs, ShowsChecked}
use Rattle.mw_laws.specs.Tails as tails
use Rattle.mw_laws.specs.Tails.{taking}
use Rattle.mw_thinning.specs.Checkpoints.{Step, goes, unthinned, plain_run, life_after_all, journal_after}

abbrev pub is_call : Step → Bool
is_call s = plain.is_call (unthinned s)

-- the run once a session has taken its messages, and went on
abbrev pub took : List Step → ℕ → Luck → List Step → List Step
took steps number luck more = steps ++ goes (taking number luck) ∷ more

-- ---- what is shown

-- what is shown by the messages that a session takes is checked by the journal of each later point
-- of the run, in this life and in later ones, and behind each checkpoint
abbrev pub ShownAcross : Type 0
ShownAcross =
    (seed : Seed) (steps : List Step) (number : ℕ) (luck : Luck) (m : Member)
    → Passes (life_after_all seed steps) (takes number) luck
    → MayPlayAs m (member_in (life_after_all seed steps).room.sessions number) → (more : List Step)
    → All (ShowsChecked seed (journal_after seed (took steps number luck more)) m)
    (untaken_in (life_after_all seed steps) number)

-- ---- tails

-- items from an index on are told the session, in a message of the same packets, in the same run
-- without checkpoints: they are the tail, from the index on, of its view after the event that owed
-- them. And they stand at the index in its view by the journal of each later point of the run with
-- them
pub record IsTail (seed : Seed) (steps : List Step) (number : ℕ) (luck : Luck) (message : Message)
    (index : ℕ) (items : List NetItem)
    : Type 0 where
  pub twin : Message
  pub packets : twin.packets ≡ message.packets
  pub tail : tails.IsTail seed (plain_run steps) number luck twin index items
  pub last : (more : List Step)
      → items ≡ take (length items)
      (drop index (view seed tail.member.mask tail.member.team tail.member.slot
      (journal_after seed (took steps number luck more))))

abbrev pub AreTails : Seed → List Step → ℕ → Luck → Message → Type 0
AreTails seed steps number luck message =
    (index : ℕ) (items : List NetItem) → Contains message.packets (received_items index items)
    → IsTail seed steps number luck message index items

-- so it is with each ReceivedItems of each message that a session takes
abbrev pub TailsAcross : Type 0
TailsAcross =
    (seed : Seed) (steps : List Step) (number : ℕ) (luck : Luck)
    → Passes (life_after_all seed steps) (takes number) luck
    → All (AreTails seed steps number luck) (untaken_in (life_after_all seed steps) number)

-- ---- clients

-- whenever the session of a number played a slot in the life that the run comes to, its mask was
-- this one
abbrev pub MaskStays : Seed → List Step → ℕ → ℕ → Type 0
MaskStays seed steps number mask =
    (front back : List Step) (m : Member) → steps ≡ front ++ back → IsTrue (list_all is_call back)
    → member_in (life_after_all seed front).room.sessions number ≡ Some m → m.mask ≡ mask

-- so many of the first messages that a session was owed are heard as its life goes on, or were taken
abbrev pub IsHeard : Session → ℕ → List Step → Type 0
IsHeard s count more = IsTrue (list_all is_call more) ⊎ (count ≤ s.taken)

-- at a point of the life the session had another mask, or played no slot; and since then this mask,
-- whenever it played a slot
pub record MaskSince (seed : Seed) (front back : List Step) (number mask : ℕ) : Type 0 where
  pub calls : IsTrue (list_all is_call back)
  pub other : (m : Member) → member_in (life_after_all seed front).room.sessions number ≡ Some m
      → m.mask ≡ mask → ⊥
  pub since : (first : List Step) (s : Step) (rest : List Step) (m : Member)
      → back ≡ first ++ s ∷ rest
      → member_in (life_after_all seed (front ++ first ++ s ∷ [])).room.sessions number ≡ Some m
      → m.mask ≡ mask

-- how many messages the session of a number was owed by a point of its life, and which it was owed
-- since then
abbrev pub owed_before : Seed → List Step → ℕ → ℕ
owed_before seed front number =
    length (owed_of (session_in (life_after_all seed front).room.sessions number))

abbrev pub owed_since : Seed → List Step → ℕ → Session → List Message
owed_since seed front number s = drop (owed_before seed front number) s.owed

-- a client that hears what a session is owed that plays a slot, all of it or any front, in any life
-- of any run with checkpoints: it never asks for Sync, and its list is a front of the view by the
-- journal of each later point of the life, and of each later point of the run where what it heard
-- was taken
pub record ClientsAcross : Type 0 where
  -- as long as the mask stays as it was connected, from no list on
  pub connected : (seed : Seed) (steps : List Step) (number : ℕ) (s : Session) (m : Member)
      → session_in (life_after_all seed steps).room.sessions number ≡ Some s → s.member ≡ Some m
      → MaskStays seed steps number m.mask
      → (count : ℕ) (more : List Step) → IsHeard s count more
      → IsFrontOf (view seed m.mask m.team m.slot (journal_after seed (steps ++ more)))
      (applied_messages (having []) (take count s.owed))
  -- where the session isn't overrun either, who heard all that it was owed has just its view
  pub heard : (seed : Seed) (steps : List Step) (number : ℕ) (s : Session) (m : Member)
      → session_in (life_after_all seed steps).room.sessions number ≡ Some s → s.member ≡ Some m
      → MaskStays seed steps number m.mask → IsFalse s.overrun
      → (applied_messages (having []) s.owed).list
      ≡ view seed m.mask m.team m.slot (journal_after seed steps)
  -- once the mask was changed, from the first ReceivedItems since then on, whatever the list was
  pub changed : (seed : Seed) (front back : List Step) (number : ℕ) (s : Session) (m : Member)
      → session_in (life_after_all seed (front ++ back)).room.sessions number ≡ Some s
      → s.member ≡ Some m
      → MaskSince seed front back number m.mask
      → (list : List NetItem) (count : ℕ) (more : List Step)
      → IsHeard s (owed_before seed front number + count) more
      → IsTrue (has_items (take count (owed_since seed front number s)))
      → IsFrontOf (view seed m.mask m.team m.slot (journal_after seed (front ++ back ++ more)))
      (applied_messages (having list) (take count (owed_since seed front number s)))
