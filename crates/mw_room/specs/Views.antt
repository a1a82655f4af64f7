-- The code's parts as plain data, and what a plan makes of them.
use Rattle.std.specs.Prelude.{◌≡◌, ℕ, zero, suc, ◌+◌, ◌==◌, ◌++◌, ◌∷◌, [], List, Bool, Option, Some, None, map, length, if◌then◌else◌}
use Rattle.mw_base.specs.Space.{HasSpace}
use Rattle.mw_protocol.specs.Connecting.{Member}
use Rattle.mw_protocol.specs.Effect as plain_effects
use Rattle.mw_protocol.specs.Owed.{owed}
use Rattle.mw_protocol.specs.Records as recorded
use Rattle.mw_protocol.specs.Rooms as plain
use Rattle.mw_protocol.specs.Standing.{steps}
use Rattle.mw_records.specs.Records.{record_view}
use Rattle.mw_room.specs.Known.{Shown, Known, shown_after, told, with_member, leaves}
use Rattle.mw_effects.specs.Parts.{grown, standing_of}
use Rattle.mw_owed.specs.Written.{message_of}
use Rattle.mw_effects.specs.Views.{effect_view}
use Rattle.mw_effects.specs.declared.effect.Effect.{Effect}
use Rattle.mw_effects.specs.declared.standing.Standing.{Standing}
use Rattle.mw_room.specs.declared.plan.Plan.{Plan}
use Rattle.mw_room.specs.declared.room.Room.{Room}
use Rattle.mw_room.specs.declared.session.Change.{Change}
use Rattle.mw_room.specs.declared.session.Session.{Session}
use Rattle.mw_room.specs.declared.state.SessionState.{SessionState}
use Rattle.mw_room.specs.declared.state.SessionState.TheVariants.{Shut, Overrun, Ready}

abbrev pub session_view : Session → Shown
session_view s =
    record {
      number = s.number;
      member = s.member;
      texts = s.untaken.items;
      shows = s.shows;
      overrun = s.overrun;
    }

abbrev pub room_view : Room → Known
room_view r =
    record {
      seed = r.standing.log.seed;
      now = standing_of r.standing;
      length = r.recorded;
      opened = r.opened;
      sessions = map session_view r.sessions.items;
    }

-- how a session stands, if it is open
abbrev pub shown_state : Option Shown → SessionState
shown_state None = Shut
shown_state (Some s) = if s.overrun then Overrun else Ready s.shows

-- ---- changes

-- a session once a change is made, at a length of the journal
abbrev pub changed_by : Change → ℕ → Shown → Shown
changed_by c length s = told c.text length (with_member (plain.or_else c.made s.member) s)

-- the element at an index changes
abbrev pub at_index : (Shown → Shown) → ℕ → List Shown → List Shown
at_index f n [] = []
at_index f zero (s ∷ ss) = f s ∷ ss
at_index f (suc n) (s ∷ ss) = s ∷ at_index f n ss

-- the changes are made one after the other
abbrev pub changed : ℕ → List Shown → List Change → List Shown
changed length ss [] = ss
changed length ss (c ∷ cs) = changed length (at_index (changed_by c length) c.at ss) cs

abbrev pub left : Option ℕ → List Shown → List Shown
left None ss = ss
left (Some number) ss = leaves number ss

-- the index of the first session of a number
abbrev pub place_in : ℕ → List Shown → ℕ
place_in number [] = zero
place_in number (s ∷ ss) = if s.number == number then zero else suc (place_in number ss)

-- the change that makes of the session at an index what is due, at any length; none where nothing is
abbrev pub IsChange : Option Change → ℕ → (ℕ → Shown → Shown) → Session → Type 0
IsChange None at due s = (length : ℕ) → due length (session_view s) ≡ session_view s
IsChange (Some c) at due s =
    (c.at ≡ at) × ((length : ℕ)
    → changed_by c length (session_view s) ≡ due length (session_view s))
    × HasSpace s.untaken c.growth 1

-- what a new member, if there is one, and a text make of a session
abbrev pub due_by : Option Member → Option (List ℕ) → ℕ → Shown → Shown
due_by made text length s = told text length (with_member (plain.or_else made s.member) s)

-- ---- effects and plans

-- the member that an effect makes of a session, the sender or another
abbrev pub made_for : plain_effects.Effect → Bool → Option Member
made_for effect sends = if sends then effect.member else None

-- the text that an effect of the sender's, or of another's, owes a session which is this member after it
abbrev pub due_text : Standing → Effect → Bool → Option Member → Option (List ℕ)
due_text s e sends member =
    message_of (owed s.log.seed (standing_of s) (grown s e) (effect_view e) sends member)

-- a session after an effect of the sender's, at a length of the journal
abbrev pub due_after : Standing → Effect → ℕ → ℕ → Shown → Shown
due_after now e sender length s =
    shown_after now.log.seed (standing_of now) (grown now e) (effect_view e) sender length s

abbrev pub plan_records : Plan → List recorded.Record
plan_records plan = map record_view plan.effect.records

-- what is known once a plan is done
abbrev pub planned : Plan → Known → Known
planned plan k = record {
  seed = k.seed;
  now = steps k.seed k.now (plan_records plan);
  length = plan.length;
  opened = plan.opened;
  sessions = left plan.lost
      (changed plan.length k.sessions plan.changes.items
      ++ map session_view plan.new_sessions.items);
}

-- the room's parts with these parts of a plan
abbrev pub made : Known → Effect → List Change → Option ℕ → List Session → Known
made k effect cs lost ns = record {
  seed = k.seed;
  now = steps k.seed k.now (map record_view effect.records);
  length = k.length + length effect.records;
  opened = k.opened + length ns;
  sessions = left lost
      (changed (k.length + length effect.records) k.sessions cs ++ map session_view ns);
}
