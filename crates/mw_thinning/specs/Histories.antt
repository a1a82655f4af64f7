-- Two lives with the same calls.
use Rattle.std.specs.Prelude.{◌≡◌, ℕ, List, [], ◌∷◌, Bool, true, false, Option, IsFalse, map}
use Rattle.std.specs.List.{list_any}
use Rattle.mw_model.specs.Seed.{Seed}
use Rattle.mw_protocol.specs.Connecting.{Member}
use Rattle.mw_protocol.specs.Lives.{Life, Call, Luck, Reply, opens, done, messages, gone, overrun, stopped, memory, disk_fault, journal_full, too_many_calls, new_life, life_after, reply_to}
use Rattle.mw_protocol.specs.Messages.{ServerPacket}
use Rattle.mw_protocol.specs.Records.{Record}
use Rattle.mw_protocol.specs.Rooms.{Message, Session}
use Rattle.mw_thinning.specs.Same.{Same}

-- a call, and how the outside lets it go
pub record Made : Type 0 where
  pub call : Call
  pub luck : Luck

abbrev pub calls_of : List Made → List Call
calls_of made = map (λ m. m.call) made

-- what the calls of a life are answered, one after another, and the life after all of them
abbrev pub replies : Life → List Made → List Reply
replies life [] = []
replies life (m ∷ ms) = reply_to life m.call m.luck ∷ replies (life_after life m.call m.luck) ms

abbrev pub life_then : Life → List Made → Life
life_then life [] = life
life_then life (m ∷ ms) = life_then (life_after life m.call m.luck) ms

-- ---- replies

abbrev pub is_memory : Reply → Bool
is_memory memory = true
is_memory (opens number) = false
is_memory done = false
is_memory (messages texts) = false
is_memory gone = false
is_memory overrun = false
is_memory (stopped cause) = false

-- whether an append has failed: the disk, or the journal's limit
abbrev pub is_failure : Reply → Bool
is_failure (stopped disk_fault) = true
is_failure (stopped (journal_full len)) = true
is_failure (stopped (too_many_calls count)) = false
is_failure memory = false
is_failure (opens number) = false
is_failure done = false
is_failure (messages texts) = false
is_failure gone = false
is_failure overrun = false

abbrev pub fails : List Reply → Bool
fails rs = list_any is_failure rs

-- ---- what sessions are owed

-- a session with the packets of all messages owed to it, without the lengths that these carry
pub record Heard : Type 0 where
  pub number : ℕ
  pub member : Option Member
  pub owed : List (List ServerPacket)
  pub taken : ℕ
  pub overrun : Bool

abbrev pub packets_in : Message → List ServerPacket
packets_in m = m.packets

abbrev pub heard : Session → Heard
heard s =
    record {
      number = s.number;
      member = s.member;
      owed = map packets_in s.owed;
      taken = s.taken;
      overrun = s.overrun;
    }

abbrev pub heard_in : Life → List Heard
heard_in life = map heard life.room.sessions

-- ---- the law

-- the same calls, of which the same ones are answered that memory was wanting, and no append fails
pub record AreAlike (first second : Life) (made other : List Made) : Type 0 where
  pub calls : calls_of made ≡ calls_of other
  pub wants : map is_memory (replies first made) ≡ map is_memory (replies second other)
  pub first_whole : IsFalse (fails (replies first made))
  pub second_whole : IsFalse (fails (replies second other))

-- they answer the same, owe the same packets to the same sessions, and record journals that come to
-- the same
pub record OweTheSame (seed : Seed) (first second : Life) (made other : List Made) : Type 0 where
  pub answers : replies first made ≡ replies second other
  pub sessions : heard_in (life_then first made) ≡ heard_in (life_then second other)
  pub journals : Same seed (life_then first made).room.journal
      (life_then second other).room.journal

abbrev pub HistoriesOweTheSame : Type 0
HistoriesOweTheSame =
    (seed : Seed) (journal base : List Record) (place gate : ℕ) (made other : List Made)
    → Same seed journal base
    → AreAlike (new_life seed journal place) (new_life seed base gate) made other
    → OweTheSame seed (new_life seed journal place) (new_life seed base gate) made other
