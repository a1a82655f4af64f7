-- What packets leave of a room that record neither checks nor hints.
use Rattle.std.proofs.Common.{◌≡◌, ℕ, ◌==◌, ◌&&◌, List, Bool, true, false, cond, ◌∷◌, [], ◌++◌, Option, Some, None, map, length, refl, sym, ap, ◌∙◌, append-nil}
use Rattle.mw_model.specs.Seed.{Seed}
use Rattle.mw_protocol.specs.Bouncing.{named_by}
use Rattle.mw_protocol.specs.Connecting.{Member}
use Rattle.mw_protocol.specs.Effect.{Effect, answering, recording}
use Rattle.mw_protocol.specs.Effects.{effect_of}
use Rattle.mw_protocol.specs.Heard.{Audience, named_hear, Announced, hears, heard_by}
use Rattle.mw_protocol.specs.Messages.{ServerPacket, bounced}
use Rattle.mw_protocol.specs.Owed.{answers_to, growth_owed}
use Rattle.mw_protocol.specs.Packets.{Bounce, bounce}
use Rattle.mw_protocol.specs.Records.{Record}
use Rattle.mw_protocol.specs.Rooms.{Session, Room, told, members_in, member_after, with_member, session_after, affected}
use Rattle.mw_laws.specs.Bounced.{is_reached, BouncesReach}
use Rattle.mw_laws.specs.Told.{recording_more, told_if, telling_where}
use Rattle.mw_laws.specs.Turns.{now}
use Rattle.mw_laws.specs.Watched.{becoming}
use Rattle.mw_laws.proofs.Updates.{no_growth}

-- what an effect leaves of a session where nothing grows
abbrev session_told : Room → ℕ → Effect → Session → Session
session_told room sender effect s =
    let sends = s.number == sender in
    let member = member_after effect sends s.member in
    told (answers_to sends effect ++ heard_by room.seed effect.announced sends member) (length room.journal) (with_member member s)

with_sessions : Room → (Session → Session) → Room
with_sessions room f = record { seed = room.seed; journal = room.journal; opened = room.opened; sessions = map f room.sessions }

abbrev later : Room → Effect → Room
later room effect = recording_more effect.records room

-- it asks for nothing whole, and what it records is neither of checks nor of hints
abbrev pub IsQuiet : Room → Effect → Type 0
IsQuiet room effect = (effect.whole ≡ false) × ((now (later room effect)).checked ≡ (now room).checked) × ((now (later room effect)).hints ≡ (now room).hints)

affected_quiet : (room : Room) (sender : ℕ) (effect : Effect) → IsQuiet room effect → affected room sender effect ≡ with_sessions (later room effect) (session_told (later room effect) sender effect)
unfolding with_sessions
affected_quiet room sender effect quiet = λ i. with_sessions (later room effect) (λ s. alone s i)
  where
    alone : (s : Session) → session_after room.seed (now room) (now (later room effect)) (length (later room effect).journal) effect sender s ≡ session_told (later room effect) sender effect s
    alone s =
        let sends = s.number == sender in
        let member = member_after effect sends s.member in
        let none = ap (λ whole. growth_owed (whole && sends) room.seed (now room) (now (later room effect)) member) quiet.0 ∙ no_growth room.seed (now room) (now (later room effect)) member quiet.1 quiet.2 in
        ap (λ ps. told (ps ++ heard_by room.seed effect.announced sends member) (length (later room effect).journal) (with_member member s)) (ap (λ ps. answers_to sends effect ++ ps) none ∙ append-nil (answers_to sends effect))

same_room : (room : Room) → recording_more [] room ≡ room
same_room room = ap (λ journal. let r : Room = record { seed = room.seed; journal = journal; opened = room.opened; sessions = room.sessions } in r) (append-nil room.journal)

-- nothing recorded
no_records : (room : Room) → ((now (recording_more [] room)).checked ≡ (now room).checked) × ((now (recording_more [] room)).hints ≡ (now room).hints)
no_records room = (ap (λ r. (now r).checked) (same_room room), ap (λ r. (now r).hints) (same_room room))

-- where it leaves each session so, and records nothing, it leaves the room so
affected_same : (room : Room) (sender : ℕ) (effect : Effect) (f : Session → Session) → effect.records ≡ [] → effect.whole ≡ false → ((s : Session) → session_told room sender effect s ≡ f s) → affected room sender effect ≡ with_sessions room f
affected_same room sender effect f records whole same =
    let kept : later room effect ≡ room = ap (λ rs. recording_more rs room) records ∙ same_room room in
    affected_quiet room sender effect (whole, ap (λ r. (now r).checked) kept, ap (λ r. (now r).hints) kept) ∙ ap (λ r. with_sessions r (session_told r sender effect)) kept ∙ (λ i. with_sessions room (λ s. same s i))

none_heard : (seed : Seed) (sends : Bool) (member : Option Member) → heard_by seed [] sends member ≡ []
none_heard seed sends None = refl
none_heard seed sends (Some m) = refl

-- ---- answers

answered_if : (room : Room) (number : ℕ) (answer : ServerPacket) (s : Session) → session_told room number (answering answer) s ≡ told_if (λ t. t.number == number) answer (length room.journal) s
answered_if room number answer s = by (s.number == number)
  where
    by : (sends : Bool) → (let member = member_after (answering answer) sends s.member in
        told (answers_to sends (answering answer) ++ heard_by room.seed [] sends member) (length room.journal) (with_member member s) ≡ cond sends (told (answer ∷ []) (length room.journal) s) s)
    by true = ap (λ ps. told (answer ∷ ps) (length room.journal) s) (none_heard room.seed true s.member)
    by false = ap (λ ps. told ps (length room.journal) s) (none_heard room.seed false s.member)

pub answered : (room : Room) (number : ℕ) (answer : ServerPacket) → affected room number (answering answer) ≡ telling_where (λ s. s.number == number) answer room
unfolding with_sessions
answered room number answer = affected_same room number (answering answer) (told_if (λ t. t.number == number) answer (length room.journal)) refl refl (answered_if room number answer)

-- ---- announcements

abbrev pub hears_as : Seed → Audience → Bool → Option Member → Bool
hears_as seed audience sends None = false
hears_as seed audience sends (Some m) = hears seed audience sends m

-- where one packet is announced and nothing answered
announced_if : (room : Room) (records : List Record) (sender : ℕ) (a : Announced) (who : Session → Bool) (s : Session) → who s ≡ hears_as room.seed a.audience (s.number == sender) s.member
    → session_told room sender (recording records (a ∷ [])) s ≡ told_if who a.packet (length room.journal) s
announced_if room records sender a who s is = by (s.number == sender) ∙ ap (λ b. cond b (told (a.packet ∷ []) (length room.journal) s) s) (sym is)
  where
    heard_one : (sends : Bool) (member : Option Member) → told (heard_by room.seed (a ∷ []) sends member) (length room.journal) s ≡ cond (hears_as room.seed a.audience sends member) (told (a.packet ∷ []) (length room.journal) s) s
    heard_one sends None = refl
    heard_one sends (Some m) =
        elim (hears room.seed a.audience sends m) as (λ c. told (cond c (a.packet ∷ []) []) (length room.journal) s ≡ cond c (told (a.packet ∷ []) (length room.journal) s) s) [ true ↦ refl | false ↦ refl ]

    by : (sends : Bool) → (let member = member_after (recording records (a ∷ [])) sends s.member in
        told (answers_to sends (recording records (a ∷ [])) ++ heard_by room.seed (a ∷ []) sends member) (length room.journal) (with_member member s)
        ≡ cond (hears_as room.seed a.audience sends s.member) (told (a.packet ∷ []) (length room.journal) s) s)
    by true = heard_one true s.member
    by false = heard_one false s.member

-- those who hear it are told it, once the records stand
pub announced_to : (room : Room) (records : List Record) (sender : ℕ) (a : Announced) (who : Session → Bool) → IsQuiet room (recording records (a ∷ []))
    → ((s : Session) → who s ≡ hears_as room.seed a.audience (s.number == sender) s.member)
    → affected room sender (recording records (a ∷ [])) ≡ telling_where who a.packet (recording_more records room)
unfolding with_sessions
announced_to room records sender a who quiet is =
    let effect = recording records (a ∷ []) in
    affected_quiet room sender effect quiet ∙ (λ i. with_sessions (later room effect) (λ s. announced_if (later room effect) records sender a who s (is s) i))

-- ---- another member

pub became : (room : Room) (number : ℕ) (m : Member) → affected room number record { records = []; answers = []; whole = false; member = Some m; announced = [] } ≡ becoming number m room
unfolding with_sessions
became room number m = affected_same room number effect (λ s. cond (s.number == number) (with_member (Some m) s) s) refl refl (λ s. by s (s.number == number))
  where
    effect : Effect
    effect = record { records = []; answers = []; whole = false; member = Some m; announced = [] }

    by : (s : Session) (sends : Bool) → (let member = cond sends (Some m) s.member in
        told (cond sends [] [] ++ heard_by room.seed [] sends member) (length room.journal) (with_member member s) ≡ cond sends (with_member (Some m) s) s)
    by s true = refl
    by s false = ap (λ ps. told ps (length room.journal) s) (none_heard room.seed false s.member)

-- ---- Bounces

reached : (seed : Seed) (sender : Member) (b : Bounce) (sends : Bool) (member : Option Member) → is_reached seed sender b member ≡ hears_as seed (named_hear sender.team (named_by b)) sends member
reached seed sender b sends None = refl
reached seed sender b sends (Some m) = refl

pub bounces_reach : BouncesReach
bounces_reach room number sender b is =
    let who : Session → Bool = λ s. is_reached room.seed sender b s.member in
    ap (λ member. affected room number (effect_of room.seed (now room) (members_in room.sessions) member (bounce b))) is
    ∙ announced_to room [] number record { audience = named_hear sender.team (named_by b); packet = bounced b } who
    (refl, (no_records room).0, (no_records room).1) (λ s. reached room.seed sender b (s.number == number) s.member)
    ∙ ap (telling_where who (bounced b)) (same_room room)
