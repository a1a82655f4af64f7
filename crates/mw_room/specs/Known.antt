-- What is kept of a room: all but its journal and what was taken, and what events make of it.
use Rattle.std.specs.Prelude.{ℕ, ◌+◌, ◌==◌, ◌++◌, ◌∷◌, [], List, Bool, true, false, Option, Some, None, map, length, max, if◌then◌else◌}
use Rattle.mw_model.specs.Seed.{Seed}
use Rattle.mw_protocol.specs.Connecting.{Member}
use Rattle.mw_protocol.specs.Effect.{Effect, nothing}
use Rattle.mw_protocol.specs.Effects.{effect_of, bad_effect}
use Rattle.mw_protocol.specs.Entering.{parting}
use Rattle.mw_protocol.specs.Messages.{room_info}
use Rattle.mw_protocol.specs.Owed.{owed}
use Rattle.mw_protocol.specs.Players.{room_info_of}
use Rattle.mw_protocol.specs.Rooms as plain
use Rattle.mw_protocol.specs.Standing.{Standing, steps, standing}
use Rattle.mw_owed.specs.Written.{message_of}

-- the texts of its untaken messages, and the greatest length that they carry
pub record Shown : Type 0 where
  pub number : ℕ
  pub member : Option Member
  pub texts : List (List ℕ)
  pub shows : ℕ
  pub overrun : Bool

pub record Known : Type 0 where
  pub seed : Seed
  pub now : Standing
  pub length : ℕ
  pub opened : ℕ
  pub sessions : List Shown

abbrev pub shown : plain.Session → Shown
shown s = record {
  number = s.number;
  member = s.member;
  texts = map plain.text_of (plain.untaken s);
  shows = plain.greatest (plain.untaken s);
  overrun = s.overrun;
}

abbrev pub known : plain.Room → Known
known r =
    record {
      seed = r.seed;
      now = standing r.seed r.journal;
      length = length r.journal;
      opened = r.opened;
      sessions = map shown r.sessions;
    }

-- ---- one session

-- a message more, at a length of the journal
abbrev pub with_text : List ℕ → ℕ → Shown → Shown
with_text text length s =
    record {
      number = s.number;
      member = s.member;
      texts = s.texts ++ text ∷ [];
      shows = max s.shows length;
      overrun = s.overrun;
    }

-- what it hasn't taken is dropped
abbrev pub dropped : Shown → Shown
dropped s = record { number = s.number; member = s.member; texts = []; shows = 0; overrun = true }

-- unless it was or now is owed too many
abbrev pub owing : List ℕ → ℕ → Shown → Shown
owing text length s =
    if s.overrun then s else (if plain.is_full s.texts then dropped s else with_text text length s)

abbrev pub told : Option (List ℕ) → ℕ → Shown → Shown
told None length s = s
told (Some text) length s = owing text length s

abbrev pub with_member : Option Member → Shown → Shown
with_member member s =
    record {
      number = s.number;
      member = member;
      texts = s.texts;
      shows = s.shows;
      overrun = s.overrun;
    }

-- a session after an effect of the sender's
abbrev pub shown_after : Seed → Standing → Standing → Effect → ℕ → ℕ → Shown → Shown
shown_after seed before after effect sender length s =
    let member = plain.member_after effect (s.number == sender) s.member in
    told (message_of (owed seed before after effect (s.number == sender) member)) length
    (with_member member s)

-- a session that was just opened
abbrev pub fresh_session : ℕ → Shown
fresh_session number =
    record { number = number; member = None; texts = []; shows = 0; overrun = false }

abbrev pub greeted : Known → ℕ → Shown
greeted k time =
    told (message_of (room_info (room_info_of k.seed time) ∷ [])) k.length
    (fresh_session (k.opened + 1))

-- it has taken its messages
abbrev pub emptied : Shown → Shown
emptied s =
    record { number = s.number; member = s.member; texts = []; shows = 0; overrun = s.overrun }

-- ---- the first session of a number

abbrev pub member_at : ℕ → List Shown → Option Member
member_at number [] = None
member_at number (s ∷ ss) = if s.number == number then s.member else member_at number ss

-- those of the sessions that play a slot
abbrev pub members_of : List Shown → List Member
members_of [] = []
members_of (s ∷ ss) = plain.or_more s.member (members_of ss)

abbrev pub shown_at : ℕ → List Shown → Option Shown
shown_at number [] = None
shown_at number (s ∷ ss) = if s.number == number then Some s else shown_at number ss

abbrev pub texts_at : ℕ → List Shown → List (List ℕ)
texts_at number [] = []
texts_at number (s ∷ ss) = if s.number == number then s.texts else texts_at number ss

abbrev pub emptied_among : ℕ → List Shown → List Shown
emptied_among number [] = []
emptied_among number (s ∷ ss) =
    if s.number == number then emptied s ∷ ss else s ∷ emptied_among number ss

abbrev pub leaves : ℕ → List Shown → List Shown
leaves number [] = []
leaves number (s ∷ ss) = if s.number == number then ss else s ∷ leaves number ss

-- ---- events

abbrev pub known_effect : Known → plain.Event → Effect
known_effect k (plain.opened time) = nothing
known_effect k (plain.sent number packet) =
    effect_of k.seed k.now (members_of k.sessions) (member_at number k.sessions) packet
known_effect k (plain.failed number bad) = bad_effect bad
known_effect k (plain.lost number) = parting k.seed (member_at number k.sessions)

-- after an effect of the sender's
abbrev pub known_affected : Known → ℕ → Effect → Known
known_affected k sender effect = record {
  seed = k.seed;
  now = steps k.seed k.now effect.records;
  length = k.length + length effect.records;
  opened = k.opened;
  sessions = map
      (shown_after k.seed k.now (steps k.seed k.now effect.records) effect sender
      (k.length + length effect.records)) k.sessions;
}

-- a session has ended
abbrev pub known_closed : Known → ℕ → Known
known_closed k number =
    record {
      seed = k.seed;
      now = k.now;
      length = k.length;
      opened = k.opened;
      sessions = leaves number k.sessions;
    }

abbrev pub known_next : Known → plain.Event → Known
known_next k (plain.opened time) =
    record {
      seed = k.seed;
      now = k.now;
      length = k.length;
      opened = k.opened + 1;
      sessions = k.sessions ++ greeted k time ∷ [];
    }
known_next k (plain.sent number packet) =
    known_affected k number (known_effect k (plain.sent number packet))
known_next k (plain.failed number bad) =
    known_affected k number (known_effect k (plain.failed number bad))
known_next k (plain.lost number) =
    known_affected (known_closed k number) number (known_effect k (plain.lost number))

abbrev pub known_taken : Known → ℕ → Known
known_taken k number =
    record {
      seed = k.seed;
      now = k.now;
      length = k.length;
      opened = k.opened;
      sessions = emptied_among number k.sessions;
    }
