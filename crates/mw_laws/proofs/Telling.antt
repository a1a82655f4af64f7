-- What an event leaves of a room's sessions.
use Rattle.std.proofs.Common.{◌≡◌, ℕ, List, false, ◌∷◌, [], ◌++◌, Option, Some, None, map, length, refl, sym, ap, ap₂, append-nil}
use Rattle.mw_model.specs.Seed.{Seed}
use Rattle.mw_protocol.specs.Connecting.{Member}
use Rattle.mw_protocol.specs.Effect.{nothing}
use Rattle.mw_protocol.specs.Owed.{owed}
use Rattle.mw_protocol.specs.Rooms.{Session, Room, opened, sent, failed, lost, told, with_member, new_session, next}
use Rattle.mw_protocol.specs.Standing.{Standing}
use Rattle.mw_laws.specs.Told.{session_then, EventsTell}
use Rattle.mw_laws.specs.Turns.{now}
use Rattle.mw_laws.proofs.Updates.{no_growth}

-- nothing owes nothing
nothing_owed : (seed : Seed) (s : Standing) (member : Option Member) → owed seed s s nothing false member ≡ []
nothing_owed seed s None = refl
nothing_owed seed s (Some m) = ap (λ ps. ps ++ []) (no_growth seed s s (Some m) refl refl)

untouched : (room : Room) (time : ℕ) (s : Session) → session_then room (opened time) s ≡ s
untouched room time s = ap (λ packets. told packets (length room.journal) (with_member s.member s)) (nothing_owed room.seed (now room) s.member)

untouched_all : (room : Room) (time : ℕ) (ss : List Session) → map (session_then room (opened time)) ss ≡ ss
untouched_all room time [] = refl
untouched_all room time (s ∷ ss) = ap₂ (λ t ts. t ∷ ts) (untouched room time s) (untouched_all room time ss)

pub events_tell : EventsTell
events_tell room (opened time) = ap (λ ss. ss ++ new_session room time ∷ []) (sym (untouched_all room time room.sessions))
events_tell room (sent sender packet) = sym (append-nil (next room (sent sender packet)).sessions)
events_tell room (failed sender bad) = sym (append-nil (next room (failed sender bad)).sessions)
events_tell room (lost sender) = sym (append-nil (next room (lost sender)).sessions)
