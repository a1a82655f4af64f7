-- What any session was shown stays checked.
use mathlib.Core.List.{IsPrefix}
use Rattle.std.proofs.Common.{◌≡◌, inl, inr, ℕ, ℤ, ◌+◌, ◌≤◌, ◌==◌, ◌&&◌, List, Bool, true, false, cond, ◌∷◌, [], ◌++◌, Option, Some, None, IsTrue, All, Contains, map, length, take, drop, refl, sym, ap, ap₂, subst, ◌∙◌, append_assoc, arith, true≢false, eqb-true, le_refl}
use Rattle.std.proofs.lemmas.Bool.{cond_both, and_parts}
use Rattle.std.proofs.lemmas.List.{length-append, take-append-le, take_all}
use Rattle.std.specs.List.{list_all}
use Rattle.mw_model.specs.Items.{NetItem}
use Rattle.mw_model.specs.Seed.{Seed}
use Rattle.mw_protocol.specs.Asked.{asked, checked}
use Rattle.mw_protocol.specs.Checks.{Check, unseen}
use Rattle.mw_protocol.specs.Connecting.{Member}
use Rattle.mw_protocol.specs.Heard.{heard_by}
use Rattle.mw_protocol.specs.Lives as lives
use Rattle.mw_protocol.specs.Lives.{Luck, Step, new_life, untaken_in, life_after_all}
use Rattle.mw_protocol.specs.Messages.{ServerPacket, room_info, connected, received_items, room_update, connection_refused, location_info, data_package, invalid_packet, print, retrieved, set_reply, bounced}
use Rattle.mw_protocol.specs.Owed.{items_from, items_owed, update_with, update_owed, growth_owed, answers_to, owed, view_of}
use Rattle.mw_protocol.specs.Players.{room_info_of}
use Rattle.mw_protocol.specs.Records.{Record}
use Rattle.mw_protocol.specs.Rooms.{Message, Session, Room, Event, opened, sent, failed, lost, with_member, or_else, session_in, member_in, effect_in, next}
use Rattle.mw_protocol.specs.Shown.{shown_by, shown_among, shown}
use Rattle.mw_protocol.specs.Standing.{Standing, standing, steps, checked_of, points}
use Rattle.mw_laws.specs.Kept.{Passes, is_call, journal_after, committed_after}
use Rattle.mw_laws.specs.Shows.{MayPlayAs, ShowsChecked, ShownIsChecked}
use Rattle.mw_laws.specs.Strangers.{is_for_strangers}
use Rattle.mw_laws.specs.Tails.{taking}
use Rattle.mw_laws.specs.Told.{staying, newcomers, session_then}
use Rattle.mw_laws.specs.Turns.{Turn, happens, takes, after, now, is_of, member_then, owed_by}
use Rattle.mw_laws.proofs.Among.{Among, among_left, among_contains, still_among, at_among, LocationAmong, locations_among, ItemAmong, items_among, view_among}
use Rattle.mw_laws.proofs.Each.{Each, each_weaker, each_with, each_map, each_in, each_taken, found_by}
use Rattle.mw_laws.proofs.Effects.{MayBecome}
use Rattle.mw_laws.proofs.Following.{staying_each}
use Rattle.mw_laws.proofs.Journal.{standing-append, standing_checked, checked-append}
use Rattle.mw_laws.proofs.Journals.{next_journal, next_seed}
use Rattle.mw_laws.proofs.Keeping.{passed_room, run_seed, first_stay}
use Rattle.mw_laws.proofs.Masks.{becomes}
use Rattle.mw_laws.proofs.Numbers.{IsNumbered, after_numbered}
use Rattle.mw_laws.proofs.Owing.{each_drop, each_told, found_session, untaken_each, taken_committed}
use Rattle.mw_laws.proofs.Pairs.{each_append, each_at}
use Rattle.mw_laws.proofs.Runs.{one_more, each_room}
use Rattle.mw_laws.proofs.Sessions.{told_member}
use Rattle.mw_laws.proofs.Showing.{ShowsAmong, AnnouncesAmong, heard_among}
use Rattle.mw_laws.proofs.ShownEffects.{member_of, event_shows}
use Rattle.mw_laws.proofs.Strangers.{strangers_hear}
use Rattle.mw_laws.proofs.Telling.{events_tell}

-- ---- what grows

update_among : (cs : List Check) (team slot before points : ℕ) (ls : List ℤ) → Each (LocationAmong cs team slot) ls → Each (ShowsAmong cs team slot) (update_with before points ls)
update_among cs team slot before points [] h = cond_both (before == points) [] (room_update [] points ∷ []) (Each (ShowsAmong cs team slot)) (λ _. tt) (λ _. (tt, tt))
update_among cs team slot before points (l ∷ ls) h = (at_among cs team slot (l ∷ ls) h, tt)

from_among : (cs : List Check) (team slot index : ℕ) (is : List NetItem) → Each (ItemAmong cs team) is → Each (ShowsAmong cs team slot) (items_from index is)
from_among cs team slot index [] h = tt
from_among cs team slot index (i ∷ is) h = (items_among cs team (i ∷ is) h, tt)

owed_items_among : (whole : Bool) (seed : Seed) (before later : Standing) (k : Member) → Each (ShowsAmong later.checked k.team k.slot) (items_owed whole seed before later k)
owed_items_among true seed before later k = from_among later.checked k.team k.slot 0 (view_of seed later k) (view_among seed k.mask k.team k.slot later.checked)
owed_items_among false seed before later k =
    let old = length (view_of seed before k) in
    from_among later.checked k.team k.slot old (drop old (view_of seed later k)) (each_drop (ItemAmong later.checked k.team) old (view_of seed later k) (view_among seed k.mask k.team k.slot later.checked))

growth_among : (whole : Bool) (seed : Seed) (before later : Standing) (k : Member) → Each (ShowsAmong later.checked k.team k.slot) (growth_owed whole seed before later (Some k))
growth_among whole seed before later k =
    let old = length (checked_of before k.team k.slot) in
    each_append (ShowsAmong later.checked k.team k.slot) (update_owed seed before later k) (items_owed whole seed before later k)
    (update_among later.checked k.team k.slot (points seed before k.team k.slot) (points seed later k.team k.slot) (drop old (checked_of later k.team k.slot))
    (each_drop (LocationAmong later.checked k.team k.slot) old (checked_of later k.team k.slot) (locations_among later.checked k.team k.slot)))
    (owed_items_among whole seed before later k)

-- ---- one event

then_standing : (room : Room) (event : Event) → steps room.seed (now room) (effect_in room event).records ≡ now (next room event)
then_standing room event = sym (ap₂ standing (next_seed room event) (next_journal room event) ∙ standing-append room.seed room.journal (effect_in room event).records)

then_among : (room : Room) (event : Event) (c : Check) → Among (now room).checked c → Among (now (next room event)).checked c
then_among room event c h = subst (λ s. Among s.checked c) (then_standing room event) (still_among room.seed (now room) (effect_in room event).records c h)

-- it shows all the more by more checks
shows_more : (cs ds : List Check) → ((c : Check) → Among cs c → Among ds c) → (team slot : ℕ) (p : ServerPacket) → ShowsAmong cs team slot p → ShowsAmong ds team slot p
shows_more cs ds more team slot p h = each_weaker (Among cs) (Among ds) more (shown_by team slot p) h

-- who sent the event's packet is its member
sender_is : (room : Room) (event : Event) (s : Session) → member_in room.sessions s.number ≡ s.member → is_of event s.number ≡ true → member_of room event ≡ s.member
sender_is room (opened time) s has sends = absurd (true≢false (sym sends))
sender_is room (sent sender packet) s has sends = ap (member_in room.sessions) (sym (eqb-true s.number sender sends)) ∙ has
sender_is room (failed sender bad) s has sends = ap (member_in room.sessions) (sym (eqb-true s.number sender sends)) ∙ has
sender_is room (lost sender) s has sends = ap (member_in room.sessions) (sym (eqb-true s.number sender sends)) ∙ has

module _ (room : Room) (event : Event) (s : Session) where
  abbrev checks_then : List Check
  checks_then = (now (next room event)).checked

  answers_among : member_in room.sessions s.number ≡ s.member → (k : Member) → member_then room event s ≡ Some k → Each (ShowsAmong checks_then k.team k.slot) (answers_to (is_of event s.number) (effect_in room event))
  answers_among has k is =
      let effect = effect_in room event in
      elim (is_of event s.number) as (λ b. is_of event s.number ≡ b → cond b (or_else effect.member s.member) s.member ≡ Some k → Each (ShowsAmong checks_then k.team k.slot) (cond b effect.answers [])) [
        | true ↦ λ sends then.
            each_weaker (ShowsAmong (now room).checked k.team k.slot) (ShowsAmong checks_then k.team k.slot) (shows_more (now room).checked checks_then (then_among room event) k.team k.slot) effect.answers
            ((event_shows room event).answers k (ap (or_else effect.member) (sender_is room event s has sends) ∙ then))
        | false ↦ λ _ _. tt
      ] refl is

  announced_among : Each (AnnouncesAmong room.seed checks_then) (effect_in room event).announced
  announced_among = subst (λ t. Each (AnnouncesAmong room.seed t.checked) (effect_in room event).announced) (then_standing room event) (event_shows room event).announced

  -- all that a member is owed
  owed_among : member_in room.sessions s.number ≡ s.member → (k : Member) → member_then room event s ≡ Some k → Each (ShowsAmong checks_then k.team k.slot) (owed_by room event s)
  owed_among has k is =
      let effect = effect_in room event in
      let sends = is_of event s.number in
      let P = ShowsAmong checks_then k.team k.slot in
      let answers = answers_to sends effect in
      let growth = growth_owed (effect.whole && sends) room.seed (now room) (now (next room event)) (Some k) in
      subst (λ member. Each P (owed room.seed (now room) (now (next room event)) effect sends member)) (sym is)
      (each_append P (answers ++ growth) (heard_by room.seed effect.announced sends (Some k))
      (each_append P answers growth (answers_among has k is) (growth_among (effect.whole && sends) room.seed (now room) (now (next room event)) k))
      (heard_among room.seed checks_then effect.announced sends k announced_among))

-- what is for who plays no slot shows nothing
stranger_among : (cs : List Check) (team slot : ℕ) (p : ServerPacket) → is_for_strangers p ≡ true → ShowsAmong cs team slot p
stranger_among cs team slot (room_info info) h = tt
stranger_among cs team slot (connection_refused errors) h = tt
stranger_among cs team slot (data_package content) h = tt
stranger_among cs team slot (invalid_packet bad) h = tt
stranger_among cs team slot (connected c) h = absurd (true≢false (sym h))
stranger_among cs team slot (received_items index items) h = absurd (true≢false (sym h))
stranger_among cs team slot (room_update locations points) h = absurd (true≢false (sym h))
stranger_among cs team slot (location_info items) h = absurd (true≢false (sym h))
stranger_among cs team slot (print p) h = absurd (true≢false (sym h))
stranger_among cs team slot (retrieved r) h = absurd (true≢false (sym h))
stranger_among cs team slot (set_reply r) h = absurd (true≢false (sym h))
stranger_among cs team slot (bounced b) h = absurd (true≢false (sym h))

strangers_among : (cs : List Check) (team slot : ℕ) (ps : List ServerPacket) → list_all is_for_strangers ps ≡ true → Each (ShowsAmong cs team slot) ps
strangers_among cs team slot [] h = tt
strangers_among cs team slot (p ∷ ps) h =
    let parts = and_parts (is_for_strangers p) (list_all is_for_strangers ps) h in
    (stranger_among cs team slot p parts.0, strangers_among cs team slot ps parts.1)

-- all that an event owes a session that plays this slot, or none
playing_among : (room : Room) (event : Event) (s : Session) → session_in room.sessions s.number ≡ Some s → (m : Member) (o : Option Member) → member_then room event s ≡ o → MayPlayAs m o
    → Each (ShowsAmong (now (next room event)).checked m.team m.slot) (owed_by room event s)
playing_among room event s found m None is plays = strangers_among (now (next room event)).checked m.team m.slot (owed_by room event s) (strangers_hear.events room event s.number s found is)
playing_among room event s found m (Some k) is plays =
    let cs = (now (next room event)).checked in
    subst (λ team. Each (ShowsAmong cs team m.slot) (owed_by room event s)) plays.0
    (subst (λ slot. Each (ShowsAmong cs k.team slot) (owed_by room event s)) plays.1 (owed_among room event s (found_by room.sessions s.number s found).1 k is))

played_before : (m : Member) (before then : Option Member) → MayBecome before then → MayPlayAs m then → MayPlayAs m before
played_before m None then h plays = tt
played_before m (Some k) None h plays = absurd h
played_before m (Some k) (Some n) h plays = (sym h.0 ∙ plays.0, sym h.1 ∙ plays.1)

-- ---- rooms

-- a message of a session shows only what is among the checks of the journal of the length that it carries
abbrev MessageAmong : Seed → List Record → Member → Message → Type 0
MessageAmong seed journal m message = (message.carries ≤ length journal) × Each (ShowsAmong (checked seed (take message.carries journal)) m.team m.slot) message.packets

abbrev WasShown : Seed → List Record → Session → Type 0
WasShown seed journal s = (m : Member) → MayPlayAs m s.member → Each (MessageAmong seed journal m) s.owed

module _ (seed : Seed) (journal : List Record) (m : Member) where
  among_grown : (more : List Record) (message : Message) → MessageAmong seed journal m message → MessageAmong seed (journal ++ more) m message
  among_grown more message h =
      let long = h.0 in (
        omega (arith, length-append journal more),
        subst (λ front. Each (ShowsAmong (checked seed front) m.team m.slot) message.packets) (sym (take-append-le message.carries journal more long)) h.1,
      )

  among_now : (packets : List ServerPacket) → Each (ShowsAmong (checked seed journal) m.team m.slot) packets → MessageAmong seed journal m record { packets = packets; carries = length journal }
  among_now packets h =
      let all = le_refl (length journal) in
      (all, subst (λ front. Each (ShowsAmong (checked seed front) m.team m.slot) packets) (sym (take_all (length journal) journal all)) h)

then_checked : (room : Room) (event : Event) → (now (next room event)).checked ≡ checked room.seed (next room event).journal
then_checked room event = standing_checked (next room event).seed (next room event).journal ∙ ap (λ e. checked e (next room event).journal) (next_seed room event)

then_shown : (room : Room) (event : Event) (s : Session) → session_in room.sessions s.number ≡ Some s → WasShown room.seed room.journal s → WasShown room.seed (next room event).journal (session_then room event s)
then_shown room event s found h m plays =
    let journal = (next room event).journal in
    let P = MessageAmong room.seed journal m in
    let then = member_then room event s in
    let packets = owed_by room event s in
    let carries = length journal in
    let t = with_member then s in
    let plays_then : MayPlayAs m then = subst (MayPlayAs m) (told_member packets carries t) plays in
    let plays_before = played_before m s.member then (becomes room event s (found_by room.sessions s.number s found).1) plays_then in
    each_told P packets carries t
    (subst (λ j. Each (MessageAmong room.seed j m) s.owed) (sym (next_journal room event))
    (each_weaker (MessageAmong room.seed room.journal m) (MessageAmong room.seed (room.journal ++ (effect_in room event).records) m) (among_grown room.seed room.journal m (effect_in room event).records) s.owed (h m plays_before)))
    (among_now room.seed journal m packets (subst (λ cs. Each (ShowsAmong cs m.team m.slot) packets) (then_checked room event) (playing_among room event s found m then refl plays_then)))

newcomers_shown : (room : Room) (event : Event) → Each (WasShown room.seed (next room event).journal) (newcomers room event)
newcomers_shown room (opened time) = (
  λ m _.
      let packets = room_info (room_info_of room.seed time) ∷ [] in
      each_told (MessageAmong room.seed room.journal m) packets (length room.journal) record { number = room.opened + 1; member = None; owed = []; taken = 0; overrun = false } tt
      (among_now room.seed room.journal m packets (tt, tt)),
  tt,
)
newcomers_shown room (sent sender packet) = tt
newcomers_shown room (failed sender bad) = tt
newcomers_shown room (lost sender) = tt

abbrev AllShown : Room → Type 0
AllShown room = IsNumbered room × Each (WasShown room.seed room.journal) room.sessions

after_shown : (room : Room) (turn : Turn) → AllShown room → AllShown (after room turn)
after_shown room (takes number) h = (after_numbered room (takes number) h.0, each_taken (WasShown room.seed room.journal) number (λ s was. was) room.sessions h.1)
after_shown room (happens event) h =
    let journal = (next room event).journal in
    let P = WasShown room.seed journal in
    let Found : Session → Type 0 = λ s. session_in room.sessions s.number ≡ Some s in
    let Was = WasShown room.seed room.journal in (
      after_numbered room (happens event) h.0,
      subst (λ e. Each (WasShown e journal) (next room event).sessions) (sym (next_seed room event))
          (subst (Each P) (sym (events_tell room event))
          (each_append P (map (session_then room event) (staying room event)) (newcomers room event)
          (each_map P (session_then room event) (staying room event)
          (each_with Found Was (λ s. P (session_then room event s)) (then_shown room event) (staying room event)
          (staying_each Found room event (found_session 0 room.opened room.sessions h.0)) (staying_each Was room event h.1)))
          (newcomers_shown room event))),
    )

run_shown : (seed : Seed) (run : List Step) → AllShown (life_after_all seed run).room
run_shown seed run = each_room AllShown (λ seed journal. (omega arith, tt)) after_shown (new_life seed [] 40) run (omega arith, tt)

-- ---- the law

-- what is checked by a front of a journal is checked by all of it
front_among : (seed : Seed) (front journal : List Record) → IsPrefix front journal → (c : Check) → Among (checked seed front) c → Among (checked seed journal) c
front_among seed front journal longer c h =
    subst (λ j. Among (checked seed j) c) longer.1
    (subst (λ cs. Among cs c) (sym (checked-append seed front longer.0)) (among_left (checked seed front) (unseen (checked seed front) (asked seed longer.0)) c h))

shown_each : (cs : List Check) (team slot : ℕ) (ps : List ServerPacket) → Each (ShowsAmong cs team slot) ps → Each (Among cs) (shown_among team slot ps)
shown_each cs team slot [] h = tt
shown_each cs team slot (p ∷ ps) h = each_append (Among cs) (shown_by team slot p) (shown_among team slot ps) h.0 (shown_each cs team slot ps h.1)

message_checked : (seed : Seed) (before journal : List Record) (m : Member) (message : Message) → IsPrefix (take message.carries before) journal → MessageAmong seed before m message → ShowsChecked seed journal m message
message_checked seed before journal m message longer h =
    let front = take message.carries before in
    let cs = checked seed front in
    let ds = checked seed journal in
    each_at (Contains ds) (shown m message)
    (each_weaker (Among cs) (Contains ds) (λ c was. among_contains ds c (front_among seed front journal longer c was)) (shown m message) (shown_each cs m.team m.slot message.packets h.1))

session_shown : (seed : Seed) (run : List Step) (number : ℕ) (s : Session) (m : Member) → session_in (life_after_all seed run).room.sessions number ≡ Some s → MayPlayAs m s.member
    → Each (MessageAmong seed (journal_after seed run) m) s.owed
session_shown seed run number s m is plays =
    let room = (life_after_all seed run).room in
    subst (λ e. Each (MessageAmong e room.journal m) s.owed) (run_seed seed run) (each_in (WasShown room.seed room.journal) room.sessions number s is (run_shown seed run).1 m plays)

owed_checked : (seed : Seed) (run : List Step) (number : ℕ) (s : Session) (m : Member) → session_in (life_after_all seed run).room.sessions number ≡ Some s → MayPlayAs m s.member
    → (more : List Step) → IsTrue (list_all is_call more) → All (ShowsChecked seed (journal_after seed (run ++ more)) m) s.owed
owed_checked seed run number s m is plays more calls =
    let before = journal_after seed run in
    let journal = journal_after seed (run ++ more) in
    each_at (ShowsChecked seed journal m) s.owed
    (each_weaker (MessageAmong seed before m) (ShowsChecked seed journal m) (λ message was. message_checked seed before journal m message (first_stay seed run more message.carries (inl calls)) was) s.owed
    (session_shown seed run number s m is plays))

module _ (seed : Seed) (run : List Step) (number : ℕ) (luck : Luck) (passes : Passes (life_after_all seed run) (lives.takes number) luck) where
  -- to take leaves the journal
  taken_journal : journal_after seed (run ++ taking number luck ∷ []) ≡ journal_after seed run
  taken_journal = ap (λ life. life.room.journal) (one_more seed run (taking number luck)) ∙ ap (λ room. room.journal) (passed_room (life_after_all seed run) (lives.takes number) luck passes)

  -- and so many of its first records as are committed then stay
  taken_stay : (more : List Step) (n : ℕ) → n ≤ committed_after seed (run ++ taking number luck ∷ []) → IsPrefix (take n (journal_after seed run)) (journal_after seed (run ++ taking number luck ∷ more))
  taken_stay more n committed =
      let then = run ++ taking number luck ∷ [] in
      subst (λ later. IsPrefix (take n (journal_after seed run)) (journal_after seed later)) (append_assoc run (taking number luck ∷ []) more)
      (subst (λ before. IsPrefix (take n before) (journal_after seed (then ++ more))) taken_journal (first_stay seed then more n (inr committed)))

  taken_checked : (m : Member) → MayPlayAs m (member_in (life_after_all seed run).room.sessions number) → (more : List Step)
      → All (ShowsChecked seed (journal_after seed (run ++ taking number luck ∷ more)) m) (untaken_in (life_after_all seed run) number)
  taken_checked m plays more =
      let sessions = (life_after_all seed run).room.sessions in
      let ms = untaken_in (life_after_all seed run) number in
      let before = journal_after seed run in
      let journal = journal_after seed (run ++ taking number luck ∷ more) in
      let Was = MessageAmong seed before m in
      let were : Each Was ms = untaken_each Was (session_in sessions number) (λ s is. session_shown seed run number s m is (subst (MayPlayAs m) (found_by sessions number s is).1 plays)) in
      each_at (ShowsChecked seed journal m) ms
      (each_with Was (λ message. message.carries ≤ committed_after seed (run ++ taking number luck ∷ [])) (ShowsChecked seed journal m)
      (λ message was committed. message_checked seed before journal m message (taken_stay more message.carries committed) was) ms were (taken_committed seed run number luck passes))

pub shown_is_checked : ShownIsChecked
shown_is_checked = record { owed = owed_checked; taken = λ seed run number luck m passes. taken_checked seed run number luck passes m }
