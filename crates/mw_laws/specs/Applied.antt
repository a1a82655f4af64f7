-- What a client knows of its items that follows the network protocol, and asks for Sync where an index isn't the one that it waits for.
use Rattle.std.specs.Prelude.{◌≡◌, ℕ, ◌⊎◌, ◌≤◌, ◌+◌, ◌==◌, ◌||◌, ◌++◌, ◌∷◌, [], List, Bool, true, false, Option, Some, None, IsTrue, IsFalse, length, take, drop, if◌then◌else◌}
use Rattle.std.specs.List.{list_all, list_any}
use mathlib.Core.List.{IsPrefix}
use Rattle.mw_model.specs.Items.{NetItem}
use Rattle.mw_model.specs.Seed.{Seed}
use Rattle.mw_protocol.specs.Asked.{view}
use Rattle.mw_protocol.specs.Connecting.{Member}
use Rattle.mw_protocol.specs.Lives.{Step, life_after_all}
use Rattle.mw_protocol.specs.Messages.{ServerPacket, room_info, connected, received_items, room_update, connection_refused, location_info, data_package, invalid_packet, print, retrieved, set_reply, bounced}
use Rattle.mw_protocol.specs.Rooms.{Message, Session, session_in, member_in}
use Rattle.mw_laws.specs.Kept.{is_call, journal_after}
use Rattle.mw_laws.specs.Views.{is_received_items}

-- its list, and whether it ever asked for Sync
pub record Client : Type 0 where
  pub list : List NetItem
  pub asks : Bool

-- index 0 replaces the list, its length appends to it, and any other asks for Sync
abbrev pub given : Client → ℕ → List NetItem → Client
given c index items =
    if index == 0 then record { list = items; asks = c.asks }
    else (if index == length c.list then record { list = c.list ++ items; asks = c.asks }
    else record { list = c.list; asks = true })

abbrev pub applied : Client → ServerPacket → Client
applied c (received_items index items) = given c index items
applied c (room_info info) = c
applied c (connected fields) = c
applied c (room_update locations points) = c
applied c (connection_refused errors) = c
applied c (location_info items) = c
applied c (data_package content) = c
applied c (invalid_packet bad) = c
applied c (print p) = c
applied c (retrieved r) = c
applied c (set_reply r) = c
applied c (bounced b) = c

-- one packet after another, and one message after another
abbrev pub applied_packets : Client → List ServerPacket → Client
applied_packets c [] = c
applied_packets c (p ∷ ps) = applied_packets (applied c p) ps

abbrev pub applied_messages : Client → List Message → Client
applied_messages c [] = c
applied_messages c (m ∷ ms) = applied_messages (applied_packets c m.packets) ms

-- a client with a list, which never asked for Sync
abbrev pub having : List NetItem → Client
having list = record { list = list; asks = false }

-- it never asked for Sync, and its list is a front of this one
pub record IsFrontOf (list : List NetItem) (c : Client) : Type 0 where
  pub asks : IsFalse c.asks
  pub front : IsPrefix c.list list

-- ---- as long as the mask stays

-- whenever the session of a number played a slot in the life that the run comes to, its mask was this one
abbrev pub MaskStays : Seed → List Step → ℕ → ℕ → Type 0
MaskStays seed steps number mask =
    (front back : List Step) (m : Member) → steps ≡ front ++ back → IsTrue (list_all is_call back)
    → member_in (life_after_all seed front).room.sessions number ≡ Some m → m.mask ≡ mask

-- at a point of the life the session had another mask, or played no slot; and since then this mask, whenever it played a slot
pub record MaskSince (seed : Seed) (front back : List Step) (number mask : ℕ) : Type 0 where
  pub calls : IsTrue (list_all is_call back)
  pub other : (m : Member) → member_in (life_after_all seed front).room.sessions number ≡ Some m
      → m.mask ≡ mask → ⊥
  pub since : (first : List Step) (s : Step) (rest : List Step) (m : Member)
      → back ≡ first ++ s ∷ rest
      → member_in (life_after_all seed (front ++ first ++ s ∷ [])).room.sessions number ≡ Some m
      → m.mask ≡ mask

abbrev pub owed_of : Option Session → List Message
owed_of None = []
owed_of (Some s) = s.owed

-- how many messages the session of a number was owed by a point of its life, and which it was owed since then
abbrev pub owed_before : Seed → List Step → ℕ → ℕ
owed_before seed front number =
    length (owed_of (session_in (life_after_all seed front).room.sessions number))

abbrev pub owed_since : Seed → List Step → ℕ → Session → List Message
owed_since seed front number s = drop (owed_before seed front number) s.owed

-- so many of the first messages that a session was owed are heard as its life goes on, or were taken
abbrev pub IsHeard : Session → ℕ → List Step → Type 0
IsHeard s count more = IsTrue (list_all is_call more) ⊎ (count ≤ s.taken)

-- whether some ReceivedItems is among them
abbrev pub has_items : List Message → Bool
has_items [] = false
has_items (m ∷ ms) = list_any is_received_items m.packets || has_items ms

-- a client that hears what a session is owed that plays a slot, all of it or any front, in any life of any run: it never asks for Sync, and its list is a front of the view, which is what the session's mask keeps of what its slot received, by the journal of each later point of the life, and of each later point of the run where what it heard was taken
pub record ClientsApply : Type 0 where
  -- as long as the mask stays as it was connected, from no list on
  pub connected : (seed : Seed) (steps : List Step) (number : ℕ) (s : Session) (m : Member)
      → session_in (life_after_all seed steps).room.sessions number ≡ Some s → s.member ≡ Some m
      → MaskStays seed steps number m.mask
      → (count : ℕ) (more : List Step) → IsHeard s count more
      → IsFrontOf (view seed m.mask m.team m.slot (journal_after seed (steps ++ more)))
      (applied_messages (having []) (take count s.owed))
  -- where the session isn't overrun either, who heard all that it was owed has just its view
  pub heard : (seed : Seed) (steps : List Step) (number : ℕ) (s : Session) (m : Member)
      → session_in (life_after_all seed steps).room.sessions number ≡ Some s → s.member ≡ Some m
      → MaskStays seed steps number m.mask → IsFalse s.overrun
      → (applied_messages (having []) s.owed).list
      ≡ view seed m.mask m.team m.slot (journal_after seed steps)
  -- once the mask was changed, from the first ReceivedItems since then on, whatever the list was
  pub changed : (seed : Seed) (front back : List Step) (number : ℕ) (s : Session) (m : Member)
      → session_in (life_after_all seed (front ++ back)).room.sessions number ≡ Some s
      → s.member ≡ Some m
      → MaskSince seed front back number m.mask
      → (list : List NetItem) (count : ℕ) (more : List Step)
      → IsHeard s (owed_before seed front number + count) more
      → IsTrue (has_items (take count (owed_since seed front number s)))
      → IsFrontOf (view seed m.mask m.team m.slot (journal_after seed (front ++ back ++ more)))
      (applied_messages (having list) (take count (owed_since seed front number s)))
