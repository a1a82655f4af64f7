-- What an event owes of a slot's items.
use Rattle.std.proofs.Common.{◌≡◌, ℕ, ◌==◌, ◌&&◌, ◌||◌, List, Bool, true, false, cond, ◌∷◌, [], ◌++◌, Some, length, drop, filter, refl, sym, ap, ap₂, ◌∙◌, eqb-true}
use Rattle.std.proofs.lemmas.Bool.{and_from, and_parts, or_left, or_right, cond_both, false≢true}
use Rattle.std.specs.List.{list_all}
use Rattle.mw_model.specs.Items.{NetItem}
use Rattle.mw_model.specs.Seed.{Seed}
use Rattle.mw_protocol.specs.Checks.{keeps, items_found}
use Rattle.mw_protocol.specs.Connecting.{Member}
use Rattle.mw_protocol.specs.Effect.{Effect}
use Rattle.mw_protocol.specs.Heard.{Audience, team_hears, slots_hear, sender_hears, watchers_hear, named_hear, Announced, hears, heard}
use Rattle.mw_protocol.specs.Messages.{ServerPacket, room_info, connected, received_items, room_update, connection_refused, location_info, data_package, invalid_packet, print, retrieved, set_reply, bounced}
use Rattle.mw_protocol.specs.Owed.{items_from, items_owed, owed, update_owed, update_with, answers_to, view_of}
use Rattle.mw_protocol.specs.Rooms.{Session, Room, Event, opened, sent, failed, lost, member_in, members_in, effect_in, next}
use Rattle.mw_protocol.specs.Standing.{standing, checked_of, points}
use Rattle.mw_laws.specs.Silence.{is_print}
use Rattle.mw_laws.specs.Turns.{now, is_of, member_then}
use Rattle.mw_laws.specs.Views.{is_received_items, asks_whole, asks_by, view_then, view_before, items_told, WholeViewsAreOwed}
use Rattle.mw_laws.proofs.Answered.{view_is}
use Rattle.mw_laws.proofs.Each.{found_by}
use Rattle.mw_laws.proofs.Effects.{is_answer, is_notice, fits, is_fitting, is_bounced, AreFitting, packet_facts, parting_plain, event_answers, event_fit}
use Rattle.mw_laws.proofs.Journal.{view-append, drop-grown, fresh}
use Rattle.mw_laws.proofs.Journals.{next_journal, next_seed}
use Rattle.mw_laws.proofs.Lists.{filter-none, filter-third}

-- ---- what else is owed

pub answer_is_none : (p : ServerPacket) → is_answer p ≡ true → is_received_items p ≡ false
answer_is_none (received_items index items) e = absurd (false≢true e)
answer_is_none (room_info info) e = refl
answer_is_none (connected c) e = refl
answer_is_none (room_update locations points) e = refl
answer_is_none (connection_refused errors) e = refl
answer_is_none (location_info items) e = refl
answer_is_none (data_package content) e = refl
answer_is_none (invalid_packet bad) e = refl
answer_is_none (print p) e = refl
answer_is_none (retrieved r) e = refl
answer_is_none (set_reply r) e = refl
answer_is_none (bounced b) e = refl

-- a print, a SetReply or a Bounced
abbrev is_told : ServerPacket → Bool
is_told p = is_print p || is_notice p

told_is_none : (p : ServerPacket) → is_told p ≡ true → is_received_items p ≡ false
told_is_none (received_items index items) e = absurd (false≢true e)
told_is_none (room_info info) e = refl
told_is_none (connected c) e = refl
told_is_none (room_update locations points) e = refl
told_is_none (connection_refused errors) e = refl
told_is_none (location_info items) e = refl
told_is_none (data_package content) e = refl
told_is_none (invalid_packet bad) e = refl
told_is_none (print p) e = refl
told_is_none (retrieved r) e = refl
told_is_none (set_reply r) e = refl
told_is_none (bounced b) e = refl

pub answers_none : (sends : Bool) (effect : Effect) → list_all is_answer effect.answers ≡ true → filter is_received_items (answers_to sends effect) ≡ []
answers_none true effect h = filter-none is_received_items is_answer answer_is_none effect.answers h
answers_none false effect h = refl

update_none : (before points : ℕ) (locations : List _) → filter is_received_items (update_with before points locations) ≡ []
update_none before points [] = elim (before == points) as (λ b. filter is_received_items (cond b [] (room_update [] points ∷ [])) ≡ []) [ true ↦ refl | false ↦ refl ]
update_none before points (l ∷ ls) = refl

items_all : (index : ℕ) (items : List NetItem) → filter is_received_items (items_from index items) ≡ items_from index items
items_all index [] = refl
items_all index (i ∷ is) = refl

fitting_told : (named : Bool) (a : Audience) (p : ServerPacket) → fits named a p ≡ true → is_told p ≡ true
fitting_told named (team_hears team) p h = or_left (is_print p) (is_notice p) h
fitting_told named (slots_hear team a b) p h = or_left (is_print p) (is_notice p) h
fitting_told named sender_hears p h = or_left (is_print p) (is_notice p) h
fitting_told named (watchers_hear key replies) p h = or_right (is_print p) (is_notice p) h
fitting_told named (named_hear team n) p h = or_right (is_print p) (is_notice p) (and_parts named (is_notice p) h).1

-- of what is announced nothing else is heard
heard_told : (named : Bool) (seed : Seed) (announced : List Announced) (sends : Bool) (m : Member) → AreFitting named announced → list_all is_told (heard seed announced sends m) ≡ true
heard_told named seed [] sends m h = refl
heard_told named seed (a ∷ others) sends m h =
    let parts = and_parts (is_fitting named a) (list_all (is_fitting named) others) h in
    let rest = heard_told named seed others sends m parts.1 in
    cond_both (hears seed a.audience sends m) (a.packet ∷ heard seed others sends m) (heard seed others sends m) (λ ps. list_all is_told ps ≡ true)
    (λ _. and_from (is_told a.packet) (list_all is_told (heard seed others sends m)) (fitting_told named a.audience a.packet parts.0) rest) (λ _. rest)

heard_none : (named : Bool) (seed : Seed) (announced : List Announced) (sends : Bool) (m : Member) → AreFitting named announced → filter is_received_items (heard seed announced sends m) ≡ []
heard_none named seed announced sends m h = filter-none is_received_items is_told told_is_none (heard seed announced sends m) (heard_told named seed announced sends m h)

-- ---- the items

abbrev pub items_at : Bool → Room → Event → Member → List ServerPacket
items_at whole room event m = items_owed whole room.seed (now room) (now (next room event)) m

items_alone : (whole : Bool) (room : Room) (event : Event) (m : Member) → filter is_received_items (items_at whole room event m) ≡ items_at whole room event m
items_alone true room event m = items_all 0 (view_of room.seed (now (next room event)) m)
items_alone false room event m = items_all (length (view_before room m)) (drop (length (view_before room m)) (view_of room.seed (now (next room event)) m))

-- all ReceivedItems that are owed are those of the view
pub items_are : (room : Room) (event : Event) (s : Session) (m : Member) → member_then room event s ≡ Some m
    → items_told room event s ≡ items_at ((effect_in room event).whole && is_of event s.number) room event m
items_are room event s m is =
    let effect = effect_in room event in
    let sends = is_of event s.number in
    ap (λ member. filter is_received_items (owed room.seed (now room) (now (next room event)) effect sends member)) is
    ∙ filter-third is_received_items (answers_to sends effect) (update_owed room.seed (now room) (now (next room event)) m) (items_at (effect.whole && sends) room event m) (heard room.seed effect.announced sends m)
    (answers_none sends effect (event_answers room event))
    (update_none (points room.seed (now room) m.team m.slot) (points room.seed (now (next room event)) m.team m.slot) (drop (length (checked_of (now room) m.team m.slot)) (checked_of (now (next room event)) m.team m.slot)))
    (items_alone (effect.whole && sends) room event m)
    (heard_none (is_bounced event) room.seed effect.announced sends m (event_fit room event))

-- ---- whether they are asked for

and_true : (b : Bool) → (b && true) ≡ b
and_true true = refl
and_true false = refl

and_false : (b : Bool) → (b && false) ≡ false
and_false true = refl
and_false false = refl

-- the whole view is owed where it is asked for
pub asked_whole : (room : Room) (event : Event) (s : Session) → member_in room.sessions s.number ≡ s.member
    → ((effect_in room event).whole && is_of event s.number) ≡ asks_by room event s
asked_whole room (opened time) s has = refl
asked_whole room (failed sender bad) s has = refl
asked_whole room (lost sender) s has = ap (λ b. b && (s.number == sender)) (parting_plain room.seed (member_in room.sessions sender)).1
asked_whole room (sent sender packet) s has =
    let owes = (effect_in room (sent sender packet)).whole in
    let facts = packet_facts room.seed (standing room.seed room.journal) (members_in room.sessions) (member_in room.sessions sender) packet in
    elim (s.number == sender) as (λ b. (s.number == sender) ≡ b → (owes && b) ≡ (b && asks_whole room.seed s.member packet)) [
      | true ↦ λ sends.
          let member : member_in room.sessions sender ≡ s.member = ap (member_in room.sessions) (sym (eqb-true s.number sender sends)) ∙ has in
          and_true owes ∙ facts.1 ∙ ap (λ m. asks_whole room.seed m packet) member
      | false ↦ λ other. and_false owes
    ] refl

-- ---- the view grows

-- what the view grows by
abbrev more_viewed : Room → Event → Member → List NetItem
more_viewed room event m = filter (keeps m.mask m.slot) (items_found room.seed m.team m.slot (fresh room.seed room.journal (effect_in room event).records))

view_grown : (room : Room) (event : Event) (m : Member) → view_then room event m ≡ view_before room m ++ more_viewed room event m
view_grown room event m =
    ap₂ (λ seed journal. view_of room.seed (standing seed journal) m) (next_seed room event) (next_journal room event)
    ∙ view_is room.seed (room.journal ++ (effect_in room event).records) m
    ∙ view-append room.seed m.mask m.team m.slot room.journal (effect_in room event).records
    ∙ ap (λ is. is ++ more_viewed room event m) (sym (view_is room.seed room.journal m))

pub grown_is : (room : Room) (event : Event) (m : Member) → view_before room m ++ drop (length (view_before room m)) (view_then room event m) ≡ view_then room event m
grown_is room event m =
    ap (λ is. view_before room m ++ is) (drop-grown (view_before room m) (view_then room event m) (more_viewed room event m) (view_grown room event m))
    ∙ sym (view_grown room event m)

pub whole_views_are_owed : WholeViewsAreOwed
whole_views_are_owed room event number s m is member =
    let found = found_by room.sessions number s is in
    let asked = asked_whole room event s (ap (member_in room.sessions) found.0 ∙ found.1) in
    let items = items_are room event s m member in
    record {
      whole = λ asks. items ∙ ap (λ w. items_at w room event m) (asked ∙ asks);
      tail = λ asks. items ∙ ap (λ w. items_at w room event m) (asked ∙ asks);
      grown = grown_is room event m;
    }
