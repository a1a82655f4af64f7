-- Rooms and lives that stand upon a base: records that their journals begin with.
use Rattle.std.proofs.Common.{◌≡◌, ℕ, ◌+◌, ◌==◌, List, Bool, false, cond, ◌∷◌, [], ◌++◌, Option, Some, None, map, length, take, drop, suc, nat_lt, refl, sym, ap, ap₂, ◌∙◌, append_assoc, append-nil, arith}
use Rattle.std.proofs.lemmas.List.{length-append, map-append, drop-drop, drop_at}
use Rattle.mw_model.specs.Seed.{Seed}
use Rattle.mw_protocol.specs.Connecting.{Member}
use Rattle.mw_protocol.specs.Effect.{Effect}
use Rattle.mw_protocol.specs.Effects.{effect_of, bad_effect}
use Rattle.mw_protocol.specs.Entering.{parting}
use Rattle.mw_protocol.specs.Lives.{Life, Call, happens, commits, takes, Luck, StopCause, Reply, messages, Outcome, passes, lacks, stops, new_life, untaken_in, ends, named_by, refused_in, refused_by, refusal, shows_pending, append_of, outcome, reply_of, reply_to, reply_unless, room_then, place_then, committed_then, life_of, life_unless, life_after, counted, left_by}
use Rattle.mw_protocol.specs.Messages.{room_info}
use Rattle.mw_protocol.specs.Owed.{owed}
use Rattle.mw_protocol.specs.Packets.{Packet}
use Rattle.mw_protocol.specs.Players.{room_info_of}
use Rattle.mw_protocol.specs.Records.{Record}
use Rattle.mw_protocol.specs.Rooms.{Room, Session, Event, opened, sent, failed, lost, greatest, told, member_in, members_in, effect_in, member_after, with_member, session_after, affected, new_session, closed, next, taken}
use Rattle.mw_protocol.specs.Standing.{Standing, standing}
use Rattle.mw_protocol.specs.Storage.{storage}
use Rattle.mw_thinning.specs.Same.{Same}
use Rattle.mw_thinning.proofs.Alike.{effects_same, owed_same, standings_same}
use Rattle.mw_thinning.proofs.Lifted.{lifted, greater_raised, told_lifted, after_lifted, member_in_lifted, members_lifted, refused_lifted, found_lifted, texts_lifted, without_lifted, taken_lifted}
use Rattle.mw_thinning.proofs.Thinned.{same_more}

-- the room with records before all of its own
abbrev pub upon : List Record → Room → Room
upon base r = record { seed = r.seed; journal = base ++ r.journal; opened = r.opened; sessions = map (lifted (length base)) r.sessions }

-- ---- events

-- what an effect makes of a room, by what the journal comes to upon a base
abbrev pub moved : List Record → Room → ℕ → Effect → Room
moved base r sender effect = record {
  seed = r.seed;
  journal = r.journal ++ effect.records;
  opened = r.opened;
  sessions = map (session_after r.seed (standing r.seed (base ++ r.journal)) (standing r.seed (base ++ (r.journal ++ effect.records))) (length (r.journal ++ effect.records)) effect sender) r.sessions;
}

abbrev pub advanced : List Record → Room → Event → Room
advanced base r (opened time) = next r (opened time)
advanced base r (sent number packet) = moved base r number (effect_in (upon base r) (sent number packet))
advanced base r (failed number bad) = moved base r number (bad_effect bad)
advanced base r (lost number) = moved base (closed r number) number (parting r.seed (member_in r.sessions number))

abbrev affecting : Room → ℕ → Effect → Standing → List Session → List Record → ℕ → Room
affecting r sender effect before ss journal carries = record {
  seed = r.seed;
  journal = journal;
  opened = r.opened;
  sessions = map (session_after r.seed before (standing r.seed journal) carries effect sender) ss;
}

abbrev with_sessions : Room → List Record → List Session → Room
with_sessions r journal ss = record { seed = r.seed; journal = journal; opened = r.opened; sessions = ss }

affected_upon : (base : List Record) (r : Room) (sender : ℕ) (effect : Effect) → affected (upon base r) sender effect ≡ upon base (moved base r sender effect)
affected_upon base r sender effect =
    let n = length base in
    let before = standing r.seed (base ++ r.journal) in
    let own = r.journal ++ effect.records in
    ap (λ journal. affecting r sender effect before (map (lifted n) r.sessions) journal (length journal)) (append_assoc base r.journal effect.records)
    ∙ ap (affecting r sender effect before (map (lifted n) r.sessions) (base ++ own)) (length-append base own)
    ∙ ap (with_sessions r (base ++ own)) (after_lifted r.seed before (standing r.seed (base ++ own)) effect sender n (length own) r.sessions)

greeted : (base : List Record) (r : Room) (time : ℕ) → new_session (upon base r) time ≡ lifted (length base) (new_session r time)
greeted base r time =
    let packets = room_info (room_info_of r.seed time) ∷ [] in
    let first : Session = record { number = r.opened + 1; member = None; owed = []; taken = 0; overrun = false } in
    ap (λ carries. told packets carries first) (length-append base r.journal) ∙ told_lifted packets (length base) (length r.journal) first

pub next_upon : (base : List Record) (r : Room) (event : Event) → next (upon base r) event ≡ upon base (advanced base r event)
next_upon base r (opened time) =
    let n = length base in
    ap (opening r (base ++ r.journal)) (ap (λ s. map (lifted n) r.sessions ++ s ∷ []) (greeted base r time) ∙ sym (map-append (lifted n) r.sessions (new_session r time ∷ [])))
  where
    opening : Room → List Record → List Session → Room
    opening r journal ss = record { seed = r.seed; journal = journal; opened = r.opened + 1; sessions = ss }
next_upon base r (sent number packet) = affected_upon base r number (effect_in (upon base r) (sent number packet))
next_upon base r (failed number bad) = affected_upon base r number (bad_effect bad)
next_upon base r (lost number) =
    let n = length base in
    ap₂ (λ ss member. affected (with_sessions r (base ++ r.journal) ss) number (parting r.seed member)) (without_lifted n number r.sessions) (member_in_lifted n number r.sessions)
    ∙ affected_upon base (closed r number) number (parting r.seed (member_in r.sessions number))

-- ---- upon bases that come to the same

module _ (seed : Seed) (xs ys : List Record) (same : Same seed xs ys) where
  owed_alike : (own more : List Record) (effect : Effect) (sends : Bool) (member : Option Member)
      → owed seed (standing seed (xs ++ own)) (standing seed (xs ++ more)) effect sends member ≡ owed seed (standing seed (ys ++ own)) (standing seed (ys ++ more)) effect sends member
  owed_alike own more effect sends member =
      let before = standings_same seed (xs ++ own) (ys ++ own) (same_more seed xs ys own same) in
      let after = standings_same seed (xs ++ more) (ys ++ more) (same_more seed xs ys more same) in
      owed_same seed (standing seed (xs ++ own)) (standing seed (xs ++ more)) (storage (ys ++ own)) (storage (ys ++ more)) effect sends member
      ∙ ap₂ (λ b a. owed seed b a effect sends member) before after

  after_alike : (own more : List Record) (carries : ℕ) (effect : Effect) (sender : ℕ) (ss : List Session)
      → map (session_after seed (standing seed (xs ++ own)) (standing seed (xs ++ more)) carries effect sender) ss
      ≡ map (session_after seed (standing seed (ys ++ own)) (standing seed (ys ++ more)) carries effect sender) ss
  after_alike own more carries effect sender [] = refl
  after_alike own more carries effect sender (s ∷ ss) =
      let member = member_after effect (s.number == sender) s.member in
      ap₂ (λ ps ts. told ps carries (with_member member s) ∷ ts) (owed_alike own more effect (s.number == sender) member) (after_alike own more carries effect sender ss)

-- of a room of this seed
module _ (r : Room) (xs ys : List Record) (same : Same r.seed xs ys) where
  moved_alike : (sender : ℕ) (effect : Effect) → moved xs r sender effect ≡ moved ys r sender effect
  moved_alike sender effect =
      let own = r.journal ++ effect.records in
      ap (with_sessions r own) (after_alike r.seed xs ys same r.journal own (length own) effect sender r.sessions)

  sent_alike : (number : ℕ) (packet : Packet) → effect_in (upon xs r) (sent number packet) ≡ effect_in (upon ys r) (sent number packet)
  sent_alike number packet =
      effect_upon xs
      ∙ effects_same r.seed (xs ++ r.journal) (ys ++ r.journal) (same_more r.seed xs ys r.journal same) (members_in r.sessions) (member_in r.sessions number) packet
      ∙ sym (effect_upon ys)
    where
      effect_upon : (base : List Record) → effect_in (upon base r) (sent number packet) ≡ effect_of r.seed (standing r.seed (base ++ r.journal)) (members_in r.sessions) (member_in r.sessions number) packet
      effect_upon base =
          ap₂ (λ ms m. effect_of r.seed (standing r.seed (base ++ r.journal)) ms m packet) (members_lifted (length base) r.sessions) (member_in_lifted (length base) number r.sessions)

pub advanced_alike : (r : Room) (xs ys : List Record) → Same r.seed xs ys → (event : Event) → advanced xs r event ≡ advanced ys r event
advanced_alike r xs ys same (opened time) = refl
advanced_alike r xs ys same (sent number packet) =
    moved_alike r xs ys same number (effect_in (upon xs r) (sent number packet)) ∙ ap (moved ys r number) (sent_alike r xs ys same number packet)
advanced_alike r xs ys same (failed number bad) = moved_alike r xs ys same number (bad_effect bad)
advanced_alike r xs ys same (lost number) = moved_alike (closed r number) xs ys same number (parting r.seed (member_in r.sessions number))

pub advanced_seed : (base : List Record) (r : Room) (event : Event) → (advanced base r event).seed ≡ r.seed
advanced_seed base r (opened time) = refl
advanced_seed base r (sent number packet) = refl
advanced_seed base r (failed number bad) = refl
advanced_seed base r (lost number) = refl

-- ---- lives

-- a life upon records that are committed, with the journal's gate at a place
abbrev pub life_upon : List Record → ℕ → Life → Life
life_upon base gate l =
    record { room = upon base l.room; committed = length base + l.committed; place = gate; stopped = l.stopped; calls = l.calls }

pub refusal_upon : (base : List Record) (gate : ℕ) (l : Life) (call : Call) → refusal (life_upon base gate l) call ≡ refusal l call
refusal_upon base gate l call = ap (refused_by l.stopped l.calls) (by (named_by call))
  where
    by : (named : Option ℕ) → refused_in (upon base l.room) (ends call) named ≡ refused_in l.room (ends call) named
    by None = refl
    by (Some number) = refused_lifted (length base) number (ends call) l.room.sessions

drop_past : (xs ys : List Record) (n : ℕ) → drop (length xs + n) (xs ++ ys) ≡ drop n ys
drop_past xs ys n = sym (drop-drop n (length xs) (xs ++ ys)) ∙ ap (drop n) (drop_at xs ys (length xs) refl)

take_past : (xs ys : List Record) (n : ℕ) → take (length xs + n) (xs ++ ys) ≡ xs ++ take n ys
take_past [] ys n = ap (λ m. take m ys) (let none : 0 + n ≡ n = omega arith in none)
take_past (x ∷ xs) ys n = ap (λ m. take m (x ∷ (xs ++ ys))) (let more : suc (length xs) + n ≡ suc (length xs + n) = omega arith in more) ∙ ap (λ zs. x ∷ zs) (take_past xs ys n)

pub left_upon : (base : List Record) (gate : ℕ) (l : Life) (more : ℕ) → left_by (life_upon base gate l) more ≡ base ++ left_by l more
left_upon base gate l more =
    ap (λ n. take n (base ++ l.room.journal)) (let all : length base + l.committed + more ≡ length base + (l.committed + more) = omega arith in all) ∙ take_past base l.room.journal (l.committed + more)

shows_upon : (base : List Record) (gate : ℕ) (l : Life) (number : ℕ) → shows_pending (life_upon base gate l) number ≡ shows_pending l number
shows_upon base gate l number =
    ap (λ ms. nat_lt (length base + l.committed) (greatest ms)) (found_lifted (length base) number l.room.sessions) ∙ greater_raised (length base) l.committed (untaken_in l number)

pub append_upon : (base : List Record) (gate : ℕ) (l : Life) (call : Call) → append_of (life_upon base gate l) call ≡ append_of l call
append_upon base gate l (happens event) = refl
append_upon base gate l commits = drop_past base l.room.journal l.committed
append_upon base gate l (takes number) = ap₂ (λ (shows : Bool) records. cond shows records []) (shows_upon base gate l number) (drop_past base l.room.journal l.committed)

pub reply_upon : (base : List Record) (r : Room) (call : Call) (out : Outcome) → reply_of (upon base r) call out ≡ reply_of r call out
reply_upon base r call lacks = refl
reply_upon base r call (stops cause) = refl
reply_upon base r (happens (opened time)) passes = refl
reply_upon base r (happens (sent number packet)) passes = refl
reply_upon base r (happens (failed number bad)) passes = refl
reply_upon base r (happens (lost number)) passes = refl
reply_upon base r commits passes = refl
reply_upon base r (takes number) passes = ap messages (texts_lifted (length base) number r.sessions)

-- the room that a call leaves upon a base
abbrev pub room_after : List Record → Room → Call → Room
room_after base r (happens event) = advanced base r event
room_after base r commits = r
room_after base r (takes number) = taken r number

room_upon : (base : List Record) (r : Room) (call : Call) → room_then (upon base r) call ≡ upon base (room_after base r call)
room_upon base r (happens event) = next_upon base r event
room_upon base r commits = refl
room_upon base r (takes number) = ap (with_sessions r (base ++ r.journal)) (taken_lifted (length base) number r.sessions)

committed_upon : (base : List Record) (gate : ℕ) (l : Life) (records : List Record) → committed_then (life_upon base gate l) records ≡ length base + committed_then l records
committed_upon base gate l [] = refl
committed_upon base gate l (r ∷ rs) = length-append base l.room.journal

abbrev living : Room → ℕ → ℕ → Option StopCause → ℕ → Life
living room committed place stopped calls = record { room = room; committed = committed; place = place; stopped = stopped; calls = calls }

-- the life that an outcome of a call leaves upon a base
abbrev pub stepped : List Record → Life → Call → Outcome → Life
stepped base l call passes = living (room_after base l.room call) (committed_then l (append_of l call)) l.place l.stopped (l.calls + 1)
stepped base l call lacks = living l.room l.committed l.place l.stopped (l.calls + 1)
stepped base l call (stops cause) = living l.room l.committed l.place (Some cause) (l.calls + 1)

abbrev pub gate_after : ℕ → Life → Call → Outcome → ℕ
gate_after gate l call passes = place_then gate (append_of l call)
gate_after gate l call lacks = gate
gate_after gate l call (stops cause) = gate

pub life_of_upon : (base : List Record) (gate : ℕ) (l : Life) (call : Call) (out : Outcome) → life_of (life_upon base gate l) call out ≡ life_upon base (gate_after gate l call out) (stepped base l call out)
life_of_upon base gate l call lacks = refl
life_of_upon base gate l call (stops cause) = refl
life_of_upon base gate l call passes =
    ap (λ records. living (room_then (upon base l.room) call) (committed_then (life_upon base gate l) records) (place_then gate records) l.stopped (l.calls + 1)) (append_upon base gate l call)
    ∙ ap₂ (λ room committed. living room committed (place_then gate (append_of l call)) l.stopped (l.calls + 1)) (room_upon base l.room call) (committed_upon base gate l (append_of l call))

pub stepped_alike : (l : Life) (xs ys : List Record) → Same l.room.seed xs ys → (call : Call) (out : Outcome) → stepped xs l call out ≡ stepped ys l call out
stepped_alike l xs ys same call lacks = refl
stepped_alike l xs ys same call (stops cause) = refl
stepped_alike l xs ys same call passes = ap (λ room. living room (committed_then l (append_of l call)) l.place l.stopped (l.calls + 1)) (by call)
  where
    by : (call : Call) → room_after xs l.room call ≡ room_after ys l.room call
    by (happens event) = advanced_alike l.room xs ys same event
    by commits = refl
    by (takes number) = refl

pub stepped_seed : (base : List Record) (l : Life) (call : Call) (out : Outcome) → (stepped base l call out).room.seed ≡ l.room.seed
stepped_seed base l (happens event) passes = advanced_seed base l.room event
stepped_seed base l commits passes = refl
stepped_seed base l (takes number) passes = refl
stepped_seed base l call lacks = refl
stepped_seed base l call (stops cause) = refl

-- what a call is answered, and the life that it leaves
module _ (base : List Record) (gate : ℕ) (l : Life) (call : Call) (luck : Luck) where
  abbrev pub outcome_upon : Outcome
  outcome_upon = outcome (life_upon base gate l) call luck

  pub replied_upon : reply_to (life_upon base gate l) call luck ≡ reply_unless (refusal l call) (reply_of l.room call outcome_upon)
  replied_upon = ap₂ reply_unless (refusal_upon base gate l call) (reply_upon base l.room call outcome_upon)

  -- refused
  pub refused_life : (reply : Reply) → refusal l call ≡ Some reply → life_after (life_upon base gate l) call luck ≡ life_upon base gate (counted l)
  refused_life reply is = ap (λ refused. life_unless refused (life_upon base gate l) (life_of (life_upon base gate l) call outcome_upon)) (refusal_upon base gate l call ∙ is)

  -- or not
  pub accepted_life : refusal l call ≡ None → (out : Outcome) → outcome_upon ≡ out → life_after (life_upon base gate l) call luck ≡ life_upon base (gate_after gate l call out) (stepped base l call out)
  accepted_life accepted out is =
      ap (λ refused. life_unless refused (life_upon base gate l) (life_of (life_upon base gate l) call outcome_upon)) (refusal_upon base gate l call ∙ accepted)
      ∙ ap (life_of (life_upon base gate l) call) is ∙ life_of_upon base gate l call out

-- a life begins upon the journal that it finds
abbrev pub begun : Seed → Life
begun seed = new_life seed [] 40

pub new_upon : (seed : Seed) (journal : List Record) (gate : ℕ) → new_life seed journal gate ≡ life_upon journal gate (begun seed)
new_upon seed journal gate =
    ap₂ (λ records committed. living (record { seed = seed; journal = records; opened = 0; sessions = [] }) committed gate None 0)
    (sym (append-nil journal)) (let all : length journal ≡ length journal + 0 = omega arith in all)
