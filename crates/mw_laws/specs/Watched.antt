-- Which keys of the data storage a session watches.
use Rattle.std.specs.Prelude.{◌≡◌, ℕ, ◌+◌, ◌≤◌, ◌==◌, ◌++◌, List, Bool, false, Option, Some, None, IsTrue, IsFalse, map, length, if◌then◌else◌}
use Rattle.mw_model.specs.Seed.{Seed}
use Rattle.mw_model.specs.Texts.{has_text}
use Rattle.mw_protocol.specs.Connecting.{Member}
use Rattle.mw_protocol.specs.Packets.{set_notify}
use Rattle.mw_protocol.specs.Rooms.{Session, Room, sent, session_in, member_in, with_member, next}
use Rattle.mw_protocol.specs.Storage.{is_private}
use Rattle.mw_protocol.specs.Storing.{watched, with_keys}
use Rattle.mw_laws.specs.Turns.{Turn, room_after}

abbrev pub watches : List ℕ → Option Member → Bool
watches key None = false
watches key (Some m) = has_text m.keys key

-- the room as it is, but that the session of a number is this member
abbrev pub becoming : ℕ → Member → Room → Room
becoming number m room = record {
  seed = room.seed;
  journal = room.journal;
  opened = room.opened;
  sessions = map (λ s. if s.number == number then with_member (Some m) s else s) room.sessions;
}

-- who watches a key from when on
pub record WatchersStay : Type 0 where
  -- a SetNotify of a session that plays a slot makes it watch more keys, and changes nothing else
  pub asked : (room : Room) (number : ℕ) (m : Member) (keys : List (List ℕ))
      → member_in room.sessions number ≡ Some m
      → next room (sent number (set_notify keys))
      ≡ becoming number (with_keys (watched m.keys keys) m) room
  -- each key that it names is watched then, unless the key is read alone, where there are 1,024 at most with those that were watched before
  pub given : (before keys : List (List ℕ)) (key : List ℕ) → IsTrue (has_text keys key)
      → IsFalse (is_private key) → length before + length keys ≤ 1024
      → IsTrue (has_text (watched before keys) key)
  -- from any point of any turns to any later one, a session watches a key that it watched as long as it is open
  pub stay : (seed : Seed) (turns more : List Turn) (number : ℕ) (m : Member) (s : Session)
      (key : List ℕ)
      → member_in (room_after seed turns).sessions number ≡ Some m → IsTrue (has_text m.keys key)
      → session_in (room_after seed (turns ++ more)).sessions number ≡ Some s
      → IsTrue (watches key s.member)
