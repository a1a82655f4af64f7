-- What a client has in its list that hears one session of its slot after another, over the lives
-- of a room.
use Rattle.std.specs.Prelude.{◌≡◌, ◌≤◌, ℕ, ◌++◌, ◌∷◌, [], List, Some, None, IsTrue, AllPairs, take}
use Rattle.std.specs.List.{list_all}
use mathlib.Core.List.{IsPrefix}
use Rattle.mw_model.specs.Items.{NetItem}
use Rattle.mw_model.specs.Seed.{Seed}
use Rattle.mw_protocol.specs.Asked.{view}
use Rattle.mw_protocol.specs.Connecting.{Member}
use Rattle.mw_protocol.specs.Lives.{Step, life_after_all}
use Rattle.mw_protocol.specs.Rooms.{Message, Session, member_in, session_in}
use Rattle.mw_laws.specs.Applied.{Client, IsFrontOf, applied_messages, applied_packets, having, owed_of}
use Rattle.mw_laws.specs.Kept.{is_call, journal_after}

-- a session that a client hears: what happens before it is opened, crashes too; what then happens
-- in its life; its number; and how many of its first messages the client heard
pub record Hearing : Type 0 where
  pub waits : List Step
  pub life : List Step
  pub number : ℕ
  pub count : ℕ

-- the run by the point at which it is not yet opened, and by the point at which what was heard of
-- it was taken, of a run that came so far before
abbrev pub run_before : List Step → Hearing → List Step
run_before steps h = steps ++ h.waits

abbrev pub run_after : List Step → Hearing → List Step
run_after steps h = run_before steps h ++ h.life

abbrev pub run_of : List Step → List Hearing → List Step
run_of steps [] = steps
run_of steps (h ∷ hs) = run_of (run_after steps h) hs

-- the messages that are heard of it
abbrev pub messages_of : Seed → List Step → Hearing → List Message
messages_of seed steps h =
    take h.count
    (owed_of (session_in (life_after_all seed (run_after steps h)).room.sessions h.number))

-- the session isn't open as the run has come so far, plays a slot with mask 7 whenever it plays
-- one, and what is heard of it is a front of the messages that it took
pub record IsHearing (seed : Seed) (team slot : ℕ) (steps : List Step) (h : Hearing) : Type 0 where
  pub unopened :
      session_in (life_after_all seed (run_before steps h)).room.sessions h.number ≡ None
  pub calls : IsTrue (list_all is_call h.life)
  pub session : Session
  pub found : session_in (life_after_all seed (run_after steps h)).room.sessions h.number
      ≡ Some session
  pub member : Member
  pub plays : session.member ≡ Some member
  pub own_team : member.team ≡ team
  pub own_slot : member.slot ≡ slot
  pub mask : member.mask ≡ 7
  pub since : (first : List Step) (s : Step) (rest : List Step) (m : Member)
      → h.life ≡ first ++ s ∷ rest
      → member_in (life_after_all seed (run_before steps h ++ first ++ s ∷ [])).room.sessions
      h.number ≡ Some m
      → m.mask ≡ 7
  pub taken : h.count ≤ session.taken

abbrev pub AreHearings : Seed → ℕ → ℕ → List Step → List Hearing → Type 0
AreHearings seed team slot steps [] = Unit {0}
AreHearings seed team slot steps (h ∷ hs) =
    IsHearing seed team slot steps h × AreHearings seed team slot (run_after steps h) hs

-- the client once it heard them, one after another
abbrev pub client_of : Seed → List Step → Client → List Hearing → Client
client_of seed steps c [] = c
client_of seed steps c (h ∷ hs) =
    client_of seed (run_after steps h) (applied_messages c (messages_of seed steps h)) hs

-- over any run of lives, after any number of sessions of a slot with mask 7, each opened after
-- what was heard of the one before was taken, a client that began with no items never asked for
-- Sync, and its list is a front of what its slot received, by the journal of this and of each
-- later point
abbrev pub ListsStayFronts : Type 0
ListsStayFronts = (seed : Seed) (team slot : ℕ) (hearings : List Hearing)
    → AreHearings seed team slot [] hearings → (more : List Step)
    → IsFrontOf (view seed 7 team slot (journal_after seed (run_of [] hearings ++ more)))
    (client_of seed [] (having []) hearings)

-- the list that a client has after each message that it hears, in one session, and in one session
-- after another
abbrev pub lists_heard : Client → List Message → List (List NetItem)
lists_heard c [] = []
lists_heard c (m ∷ ms) =
    (applied_packets c m.packets).list ∷ lists_heard (applied_packets c m.packets) ms

abbrev pub lists_of : Seed → List Step → Client → List Hearing → List (List NetItem)
lists_of seed steps c [] = []
lists_of seed steps c (h ∷ hs) =
    lists_heard c (messages_of seed steps h)
    ++ lists_of seed (run_after steps h) (applied_messages c (messages_of seed steps h)) hs

-- of two points at which such a client has heard a message, be they in one session or in two, in
-- one life of the room or in two, its list at the earlier one is a front of that at the later one:
-- it never gets shorter, and keeps each item that it has at its place
abbrev pub ListsOnlyGrow : Type 0
ListsOnlyGrow = (seed : Seed) (team slot : ℕ) (hearings : List Hearing)
    → AreHearings seed team slot [] hearings
    → AllPairs IsPrefix (lists_of seed [] (having []) hearings)
