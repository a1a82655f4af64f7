-- A key of the data storage holds what was last set.
use Rattle.std.specs.Prelude.{◌≡◌, ℕ, ◌==◌, ◌&&◌, ◌||◌, ◌++◌, ◌∷◌, [], List, Bool, true, false, not, Option, Some, None, Ok, Err, IsTrue, codes, bytes_eq, if◌then◌else◌}
use Rattle.std.specs.List.{list_all}
use Rattle.mw_model.specs.Json.{Json, Members, no_members, member, find_member, ComeAfter}
use Rattle.mw_model.specs.Seed.{Seed}
use Rattle.mw_model.specs.Sets.{Operation, SetPacket}
use Rattle.mw_model.specs.Texts.{has_text}
use Rattle.mw_protocol.specs.Connecting.{Member}
use Rattle.mw_protocol.specs.Messages.{ServerPacket, invalid_packet, retrieved, set_reply}
use Rattle.mw_protocol.specs.Packets.{Packet, get, change}
use Rattle.mw_protocol.specs.Reading.{read_value}
use Rattle.mw_protocol.specs.Records.{Record, checks, release, collect, status, hint, hint_status, store}
use Rattle.mw_protocol.specs.Rooms.{Room, sent, member_in, next}
use Rattle.mw_protocol.specs.Standing.{standing}
use Rattle.mw_protocol.specs.Storage.{Refused, Changed, is_private, value_of, set_case}
use Rattle.mw_protocol.specs.Storing.{refused_by, store_records, reply_to}
use Rattle.mw_laws.specs.Told.{recording_more, telling_where}
use Rattle.mw_laws.specs.Turns.{Turn, happens, after_all, now}

-- what a journal comes to under a key, if the key is kept
abbrev pub value_in : Seed → List Record → List ℕ → Option Json
value_in seed journal key = value_of key (standing seed journal).storage

-- ---- a key that nobody sets

-- what isn't stored under the key
abbrev pub spares : List ℕ → Record → Bool
spares key (store other value) = not (bytes_eq key other)
spares key (checks team slot locations) = true
spares key (release team slot) = true
spares key (collect team slot) = true
spares key (status team slot number) = true
spares key (hint h) = true
spares key (hint_status team finder location number) = true

-- what is no Set of the key
abbrev pub asks_nothing : List ℕ → Packet → Bool
asks_nothing key (change set) = not (bytes_eq key set.key)
asks_nothing key packet = true

abbrev pub sets_nothing : List ℕ → Turn → Bool
sets_nothing key (happens (sent number packet)) = asks_nothing key packet
sets_nothing key turn = true

-- a key is kept with its value, or isn't kept, as before
pub record KeysStay : Type 0 where
  -- after more records of which none is stored under it
  pub journals : (seed : Seed) (journal more : List Record) (key : List ℕ)
      → IsTrue (list_all (spares key) more)
      → value_in seed (journal ++ more) key ≡ value_in seed journal key
  -- in any room, after turns in which no session sends a Set of it
  pub turns : (room : Room) (turns : List Turn) (key : List ℕ)
      → IsTrue (list_all (sets_nothing key) turns)
      → value_of key (now (after_all room turns)).storage ≡ value_of key (now room).storage

-- ---- answers

-- what the session sends leaves the room as it is, but that the session is told one packet
abbrev pub IsAnswered : Room → ℕ → Packet → ServerPacket → Type 0
IsAnswered room number packet answer =
    next room (sent number packet) ≡ telling_where (λ s. s.number == number) answer room

-- the value of each key that is asked for, and no other
abbrev pub value_asked : Room → List (List ℕ) → List ℕ → Option Json
value_asked room keys key =
    if has_text keys key then Some (read_value room.seed (now room) key) else None

-- each name stands once, in byte order
abbrev pub AreInOrder : Members → Type 0
AreInOrder no_members = Unit {0}
AreInOrder (member k j ms) = ComeAfter k ms × AreInOrder ms

-- a Get of a session that plays a slot is answered by just the values of its keys, and its further members
abbrev pub GetsAreAnswered : Type 0
GetsAreAnswered =
    (room : Room) (number : ℕ) (m : Member) (keys : List (List ℕ)) (further : Members)
    → member_in room.sessions number ≡ Some m
    → (values : Members)
    × IsAnswered room number (get keys further)
    (retrieved record { keys = values; further = further })
    × ((key : List ℕ) → find_member key values ≡ value_asked room keys key) × AreInOrder values

-- a Set that is refused is answered by why it is
abbrev pub RefusedSetsChangeNothing : Type 0
RefusedSetsChangeNothing =
    (room : Room) (number : ℕ) (m : Member) (set : SetPacket) (r : Refused)
    → member_in room.sessions number ≡ Some m
    → set_case (now room).storage set ≡ Err r
    → IsAnswered room number (change set) (invalid_packet (refused_by r))

-- ---- what was set is got

-- whoever plays a slot and asks for a key is answered this value, whatever else is asked for
pub record IsGot (room : Room) (key : List ℕ) (value : Json) : Type 0 where
  pub alone : (number : ℕ) (m : Member) (further : Members)
      → member_in room.sessions number ≡ Some m
      → IsAnswered room number (get (key ∷ []) further)
      (retrieved record { keys = member key value no_members; further = further })
  pub among : (number : ℕ) (m : Member) (keys : List (List ℕ)) (further : Members)
      → member_in room.sessions number ≡ Some m → IsTrue (has_text keys key)
      → (values : Members)
      × IsAnswered room number (get keys further)
      (retrieved record { keys = values; further = further })
      × (find_member key values ≡ Some value)

-- what a journal has as a key's last record is got, in whatever life a room has the journal
abbrev pub RecordedIsGot : Type 0
RecordedIsGot =
    (room : Room) (journal more : List Record) (key : List ℕ) (value : Json)
    → is_private key ≡ false → room.journal ≡ journal ++ store key value ∷ more
    → IsTrue (list_all (spares key) more) → IsGot room key value

-- after a Set that isn't refused its new value is kept and got, until a session sends another Set of its key
pub record SetIsGot (room : Room) (number : ℕ) (set : SetPacket) (c : Changed) : Type 0 where
  pub kept : (turns : List Turn) → IsTrue (list_all (sets_nothing set.key) turns)
      → value_of set.key (now (after_all (next room (sent number (change set))) turns)).storage
      ≡ Some c.new
  pub got : (turns : List Turn) → IsTrue (list_all (sets_nothing set.key) turns)
      → IsGot (after_all (next room (sent number (change set))) turns) set.key c.new
  -- its key isn't read alone
  pub public : is_private set.key ≡ false
  -- where its last operation replaces the value, the new one is what that gives
  pub replaced : (first : List Operation) (value : Json)
      → set.operations ≡ first ++ record { name = codes "replace"; value = value } ∷ []
      → c.new ≡ value

abbrev pub SetsAreGot : Type 0
SetsAreGot =
    (room : Room) (number : ℕ) (m : Member) (set : SetPacket) (c : Changed)
    → member_in room.sessions number ≡ Some m
    → set_case (now room).storage set ≡ Ok c → SetIsGot room number set c

-- ---- who is told of a change

-- who watches the key, and the sender where it asks for that
abbrev pub hears_of : ℕ → SetPacket → ℕ → Option Member → Bool
hears_of sender set number None = false
hears_of sender set number (Some m) =
    ((number == sender) && set.want_reply) || has_text m.keys set.key

-- a Set that isn't refused records its new value, where the key is new or held another, and is told with the old and the new value to just those who hear of it
abbrev pub SetsAreTold : Type 0
SetsAreTold =
    (room : Room) (number : ℕ) (m : Member) (set : SetPacket) (c : Changed)
    → member_in room.sessions number ≡ Some m
    → set_case (now room).storage set ≡ Ok c
    → next room (sent number (change set))
    ≡ telling_where (λ s. hears_of number set s.number s.member) (set_reply (reply_to m set c))
    (recording_more (store_records (now room).storage set.key c.new) room)
