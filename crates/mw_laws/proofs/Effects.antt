-- What the effect of every packet is made of.
use Rattle.std.proofs.Common.{◌≡◌, ℕ, ◌==◌, ◌&&◌, List, Bool, true, false, cond, ◌∷◌, [], Option, Some, None, Result, Ok, Err, is_some, IsSomeAnd, refl, sym, ap, subst, ◌∙◌, codes}
use Rattle.std.proofs.lemmas.Bool.{cond_both, and_from}
use Rattle.std.specs.List.{list_all}
use Rattle.mw_model.specs.Seed.{Seed, Held, held_at}
use Rattle.mw_model.specs.Sets.{SetPacket}
use Rattle.mw_model.specs.Texts.{has_text}
use Rattle.mw_protocol.specs.Checks.{Check}
use Rattle.mw_protocol.specs.Commands.{is_allowed, where_new, status_records}
use Rattle.mw_protocol.specs.Connecting.{Member, member_by, updated}
use Rattle.mw_protocol.specs.Effect.{Effect, telling}
use Rattle.mw_protocol.specs.Effects.{stranger_effect, member_effect, effect_of}
use Rattle.mw_protocol.specs.Entering.{to_team, name_of, joining, tags_told, same_texts, parting}
use Rattle.mw_protocol.specs.Prints.{reached_goal, changed_tags}
use Rattle.mw_protocol.specs.Heard.{Audience, team_hears, slots_hear, sender_hears, watchers_hear, named_hear, Announced}
use Rattle.mw_protocol.specs.Hints.{Answer, bought, no_such_name, nothing_to_hint, too_dear, bought_for, item_wanted, location_wanted}
use Rattle.mw_protocol.specs.Locating.{sent_at, sends, hint_told, hints_told, scouts_told, hints_scouted}
use Rattle.mw_protocol.specs.Locations.{new_checks}
use Rattle.mw_protocol.specs.Messages.{ServerPacket, room_info, connected, received_items, room_update, connection_refused, location_info, data_package, invalid_packet, print, retrieved, set_reply, bounced}
use Rattle.mw_protocol.specs.Packets.{Packet, Connect, connect, connect_update, sync, location_checks, location_scouts, update_hint, status_update, say, get_data_package, bounce, get, change, set_notify}
use Rattle.mw_protocol.specs.Records.{Record, Hint, checks, release, collect, status, hint, hint_status, store}
use Rattle.mw_protocol.specs.Rooms.{Room, Event, opened, sent, failed, lost, or_else, effect_in, member_in, members_in}
use Rattle.mw_protocol.specs.Sayings as said
use Rattle.mw_protocol.specs.Sayings.{said_of}
use Rattle.mw_protocol.specs.Speaking.{record_told, records_told, giving, where_allowed, buying, saying}
use Rattle.mw_protocol.specs.Standing.{Standing, standing, is_checked, status_in, points}
use Rattle.mw_protocol.specs.Storage.{Refused, Changed, set_case}
use Rattle.mw_protocol.specs.Storing.{storing, changing}
use Rattle.mw_laws.specs.Silence.{is_print}
use Rattle.mw_laws.specs.Views.{asks_whole}
use Rattle.mw_laws.proofs.Lists.{passed-append}
use Rattle.mw_laws.proofs.Watching.{watched_keeps}

-- ---- answers, whole views and members

-- what a packet may be answered with
abbrev pub is_answer : ServerPacket → Bool
is_answer (connected c) = true
is_answer (connection_refused errors) = true
is_answer (location_info items) = true
is_answer (data_package content) = true
is_answer (invalid_packet bad) = true
is_answer (retrieved r) = true
is_answer (set_reply r) = true
is_answer (room_info info) = false
is_answer (received_items index items) = false
is_answer (room_update locations points) = false
is_answer (print p) = false
is_answer (bounced b) = false

-- records and prints alone
abbrev pub IsPlain : Effect → Type 0
IsPlain e = (e.answers ≡ []) × (e.whole ≡ false) × (e.member ≡ None)

giving_plain : (seed : Seed) (records : List Record) → IsPlain (giving seed records)
giving_plain seed [] = (refl, refl, refl)
giving_plain seed (r ∷ rs) = (refl, refl, refl)

allowed_plain : (permission s : ℕ) (effect : Effect) → IsPlain effect → IsPlain (where_allowed permission s effect)
allowed_plain permission s effect h = cond_both (is_allowed permission s) effect (telling (codes "not allowed")) IsPlain (λ _. h) (λ _. (refl, refl, refl))

buying_plain : (seed : Seed) (now : Standing) (answer : Answer) → IsPlain (buying seed now answer)
buying_plain seed now (bought h) = (refl, refl, refl)
buying_plain seed now no_such_name = (refl, refl, refl)
buying_plain seed now nothing_to_hint = (refl, refl, refl)
buying_plain seed now (too_dear price left) = (refl, refl, refl)

pub saying_plain : (seed : Seed) (now : Standing) (members : List Member) (m : Member) (what : said.Said) → IsPlain (saying seed now members m what)
saying_plain seed now members m (said.chat text) = (refl, refl, refl)
saying_plain seed now members m said.help = (refl, refl, refl)
saying_plain seed now members m said.players = (refl, refl, refl)
saying_plain seed now members m said.missing = (refl, refl, refl)
saying_plain seed now members m said.checked = (refl, refl, refl)
saying_plain seed now members m said.remaining = allowed_plain seed.server.remaining (status_in now m.team m.slot) _ (refl, refl, refl)
saying_plain seed now members m said.release =
    allowed_plain seed.server.release (status_in now m.team m.slot) (giving seed (where_new seed now (release m.team m.slot))) (giving_plain seed (where_new seed now (release m.team m.slot)))
saying_plain seed now members m said.collect =
    allowed_plain seed.server.collect (status_in now m.team m.slot) (giving seed (where_new seed now (collect m.team m.slot))) (giving_plain seed (where_new seed now (collect m.team m.slot)))
saying_plain seed now members m (said.hint []) = (refl, refl, refl)
saying_plain seed now members m (said.hint (c ∷ cs)) =
    buying_plain seed now (bought_for seed (is_checked now) (points seed now m.team m.slot) now.hints m.team m.slot (item_wanted (c ∷ cs)))
saying_plain seed now members m (said.hint_location name) =
    buying_plain seed now (bought_for seed (is_checked now) (points seed now m.team m.slot) now.hints m.team m.slot (location_wanted name))
saying_plain seed now members m said.unknown_command = (refl, refl, refl)

-- a change is answered by a refusal at most
pub storing_stays : (now : Standing) (m : Member) (set : SetPacket) (done : Result Changed Refused)
    → (list_all is_answer (storing now m set done).answers ≡ true) × ((storing now m set done).whole ≡ false) × ((storing now m set done).member ≡ None)
storing_stays now m set (Ok c) = (refl, refl, refl)
storing_stays now m set (Err r) = (refl, refl, refl)

-- it plays the same slot of the same team, and watches the same keys, or more
abbrev pub IsStill : Member → Member → Type 0
IsStill k n = (n.team ≡ k.team) × (n.slot ≡ k.slot) × ((key : List ℕ) → has_text k.keys key ≡ true → has_text n.keys key ≡ true)

abbrev pub MayBecome : Option Member → Option Member → Type 0
MayBecome None after = Unit {0}
MayBecome (Some k) after = IsSomeAnd after (IsStill k)

pub same_still : (member : Option Member) → MayBecome member member
same_still None = tt
same_still (Some k) = (refl, refl, λ key has. has)

-- its answers, whether it owes the whole view, and that a member stays one
abbrev pub Facts : Seed → Option Member → Packet → Effect → Type 0
Facts seed member packet e = (list_all is_answer e.answers ≡ true) × (e.whole ≡ asks_whole seed member packet) × MayBecome member (or_else e.member member)

joining_facts : (seed : Seed) (now : Standing) (fields : Connect) (made : Option Member)
    → (list_all is_answer (joining seed now fields made).answers ≡ true) × ((joining seed now fields made).whole ≡ is_some made)
joining_facts seed now fields None = (refl, refl)
joining_facts seed now fields (Some m) = (refl, refl)

-- where it owes nothing whole and makes no member
stays_facts : (seed : Seed) (member : Option Member) (packet : Packet) (e : Effect) → asks_whole seed member packet ≡ false → list_all is_answer e.answers ≡ true → e.whole ≡ false → e.member ≡ None → Facts seed member packet e
stays_facts seed member packet e asks answers part none = (answers, part ∙ sym asks, subst (λ made. MayBecome member (or_else made member)) (sym none) (same_still member))

stranger_facts : (seed : Seed) (now : Standing) (packet : Packet) → Facts seed None packet (stranger_effect seed now packet)
stranger_facts seed now (connect fields) =
    let h = joining_facts seed now fields (member_by seed fields) in
    (h.0, h.1, tt)
stranger_facts seed now (get_data_package games) = (refl, refl, tt)
stranger_facts seed now (connect_update u) = (refl, refl, tt)
stranger_facts seed now sync = (refl, refl, tt)
stranger_facts seed now (location_checks numbers) = (refl, refl, tt)
stranger_facts seed now (location_scouts numbers as_hint) = (refl, refl, tt)
stranger_facts seed now (update_hint u) = (refl, refl, tt)
stranger_facts seed now (status_update s) = (refl, refl, tt)
stranger_facts seed now (say text) = (refl, refl, tt)
stranger_facts seed now (bounce b) = (refl, refl, tt)
stranger_facts seed now (get keys further) = (refl, refl, tt)
stranger_facts seed now (change set) = (refl, refl, tt)
stranger_facts seed now (set_notify keys) = (refl, refl, tt)

member_facts : (seed : Seed) (now : Standing) (members : List Member) (k : Member) (packet : Packet) → Facts seed (Some k) packet (member_effect seed now members k packet)
member_facts seed now members k (connect fields) = (refl, refl, same_still (Some k))
member_facts seed now members k (connect_update u) = (refl, refl, same_still (Some k))
member_facts seed now members k sync = (refl, refl, same_still (Some k))
member_facts seed now members k (location_checks numbers) = (refl, refl, same_still (Some k))
member_facts seed now members k (location_scouts numbers as_hint) = (refl, refl, same_still (Some k))
member_facts seed now members k (update_hint u) = (refl, refl, same_still (Some k))
member_facts seed now members k (status_update s) = (refl, refl, same_still (Some k))
member_facts seed now members k (say text) =
    let h = saying_plain seed now members k (said_of text) in
    stays_facts seed (Some k) (say text) (saying seed now members k (said_of text)) refl (ap (list_all is_answer) h.0) h.1 h.2
member_facts seed now members k (get_data_package games) = (refl, refl, same_still (Some k))
member_facts seed now members k (bounce b) = (refl, refl, same_still (Some k))
member_facts seed now members k (get keys further) = (refl, refl, same_still (Some k))
member_facts seed now members k (change set) =
    let h = storing_stays now k set (set_case now.storage set) in
    stays_facts seed (Some k) (change set) (changing now k set) refl h.0 h.1 h.2
member_facts seed now members k (set_notify keys) = (refl, refl, (refl, refl, λ key has. watched_keeps k.keys keys key has))

pub packet_facts : (seed : Seed) (now : Standing) (members : List Member) (member : Option Member) (packet : Packet) → Facts seed member packet (effect_of seed now members member packet)
packet_facts seed now members None packet = stranger_facts seed now packet
packet_facts seed now members (Some k) packet = member_facts seed now members k packet

-- who leaves is answered nothing, is owed nothing whole, and becomes no other
pub parting_plain : (seed : Seed) (member : Option Member) → IsPlain (parting seed member)
parting_plain seed None = (refl, refl, refl)
parting_plain seed (Some m) = (refl, refl, refl)

pub event_answers : (room : Room) (event : Event) → list_all is_answer (effect_in room event).answers ≡ true
event_answers room (opened time) = refl
event_answers room (sent number packet) =
    (packet_facts room.seed (standing room.seed room.journal) (members_in room.sessions) (member_in room.sessions number) packet).0
event_answers room (failed number bad) = refl
event_answers room (lost number) = ap (list_all is_answer) (parting_plain room.seed (member_in room.sessions number)).0

-- ---- announcements

abbrev pub is_notice : ServerPacket → Bool
is_notice (set_reply r) = true
is_notice (bounced b) = true
is_notice (print p) = false
is_notice (connected c) = false
is_notice (connection_refused errors) = false
is_notice (location_info items) = false
is_notice (data_package content) = false
is_notice (invalid_packet bad) = false
is_notice (retrieved r) = false
is_notice (room_info info) = false
is_notice (received_items index items) = false
is_notice (room_update locations points) = false

-- a print, or to watchers, or to those who are named if any are, a SetReply or a Bounced
abbrev pub fits : Bool → Audience → ServerPacket → Bool
fits named (team_hears team) p = is_print p
fits named (slots_hear team a b) p = is_print p
fits named sender_hears p = is_print p
fits named (watchers_hear key replies) p = is_notice p
fits named (named_hear team n) p = named && is_notice p

abbrev pub is_fitting : Bool → Announced → Bool
is_fitting named a = fits named a.audience a.packet

abbrev pub AreFitting : Bool → List Announced → Type 0
AreFitting named announced = list_all (is_fitting named) announced ≡ true

abbrev pub is_bounce : Packet → Bool
is_bounce (bounce b) = true
is_bounce packet = false

abbrev pub is_bounced : Event → Bool
is_bounced (sent number packet) = is_bounce packet
is_bounced (opened time) = false
is_bounced (failed number bad) = false
is_bounced (lost number) = false

sent_fit : (team : ℕ) (at : Option Held) → AreFitting false (sent_at team at)
sent_fit team None = refl
sent_fit team (Some h) = refl

sends_fit : (seed : Seed) (cs : List Check) → AreFitting false (sends seed cs)
sends_fit seed [] = refl
sends_fit seed (c ∷ cs) = passed-append (is_fitting false) (sent_at c.team (held_at seed c.slot c.location)) (sends seed cs) (sent_fit c.team (held_at seed c.slot c.location)) (sends_fit seed cs)

hint_fit : (now : Standing) (h : Hint) (at : Option Held) → AreFitting false (hint_told now h at)
hint_fit now h None = refl
hint_fit now h (Some at) = refl

hints_fit : (seed : Seed) (now : Standing) (hs : List Hint) → AreFitting false (hints_told seed now hs)
hints_fit seed now [] = refl
hints_fit seed now (h ∷ hs) =
    passed-append (is_fitting false) (hint_told now h (held_at seed h.finder h.location)) (hints_told seed now hs) (hint_fit now h (held_at seed h.finder h.location)) (hints_fit seed now hs)

-- one where a test passes, or where it fails
where_true : (b : Bool) (a : Announced) → is_fitting false a ≡ true → AreFitting false (cond b (a ∷ []) [])
where_true true a h = and_from (is_fitting false a) true h refl
where_true false a h = refl

where_false : (b : Bool) (a : Announced) → is_fitting false a ≡ true → AreFitting false (cond b [] (a ∷ []))
where_false true a h = refl
where_false false a h = and_from (is_fitting false a) true h refl

record_fit : (seed : Seed) (r : Record) → AreFitting false (record_told seed r)
record_fit seed (checks team slot locations) = refl
record_fit seed (release team slot) = refl
record_fit seed (collect team slot) = refl
record_fit seed (status team slot s) = where_true (s == 30) (to_team team (reached_goal team slot (name_of seed team slot))) refl
record_fit seed (hint h) = refl
record_fit seed (hint_status team finder location s) = refl
record_fit seed (store key value) = refl

records_fit : (seed : Seed) (rs : List Record) → AreFitting false (records_told seed rs)
records_fit seed [] = refl
records_fit seed (r ∷ rs) = passed-append (is_fitting false) (record_told seed r) (records_told seed rs) (record_fit seed r) (records_fit seed rs)

tags_fit : (seed : Seed) (before : List (List ℕ)) (m : Member) → AreFitting false (tags_told seed before m)
tags_fit seed before m = where_false (same_texts before m.tags) (to_team m.team (changed_tags m.team m.slot m.tags (name_of seed m.team m.slot))) refl

giving_fit : (seed : Seed) (records : List Record) → AreFitting false (giving seed records).announced
giving_fit seed [] = refl
giving_fit seed (r ∷ rs) = records_fit seed (r ∷ rs)

allowed_fit : (permission s : ℕ) (effect : Effect) → AreFitting false effect.announced → AreFitting false (where_allowed permission s effect).announced
allowed_fit permission s effect h = cond_both (is_allowed permission s) effect (telling (codes "not allowed")) (λ e. AreFitting false e.announced) (λ _. h) (λ _. refl)

buying_fit : (seed : Seed) (now : Standing) (answer : Answer) → AreFitting false (buying seed now answer).announced
buying_fit seed now (bought h) = hint_fit now h (held_at seed h.finder h.location)
buying_fit seed now no_such_name = refl
buying_fit seed now nothing_to_hint = refl
buying_fit seed now (too_dear price left) = refl

saying_fit : (seed : Seed) (now : Standing) (members : List Member) (m : Member) (what : said.Said) → AreFitting false (saying seed now members m what).announced
saying_fit seed now members m (said.chat text) = refl
saying_fit seed now members m said.help = refl
saying_fit seed now members m said.players = refl
saying_fit seed now members m said.missing = refl
saying_fit seed now members m said.checked = refl
saying_fit seed now members m said.remaining = allowed_fit seed.server.remaining (status_in now m.team m.slot) _ refl
saying_fit seed now members m said.release =
    allowed_fit seed.server.release (status_in now m.team m.slot) (giving seed (where_new seed now (release m.team m.slot))) (giving_fit seed (where_new seed now (release m.team m.slot)))
saying_fit seed now members m said.collect =
    allowed_fit seed.server.collect (status_in now m.team m.slot) (giving seed (where_new seed now (collect m.team m.slot))) (giving_fit seed (where_new seed now (collect m.team m.slot)))
saying_fit seed now members m (said.hint []) = refl
saying_fit seed now members m (said.hint (c ∷ cs)) =
    buying_fit seed now (bought_for seed (is_checked now) (points seed now m.team m.slot) now.hints m.team m.slot (item_wanted (c ∷ cs)))
saying_fit seed now members m (said.hint_location name) =
    buying_fit seed now (bought_for seed (is_checked now) (points seed now m.team m.slot) now.hints m.team m.slot (location_wanted name))
saying_fit seed now members m said.unknown_command = refl

storing_fit : (now : Standing) (m : Member) (set : SetPacket) (done : Result Changed Refused) → AreFitting false (storing now m set done).announced
storing_fit now m set (Ok c) = refl
storing_fit now m set (Err r) = refl

joining_fit : (seed : Seed) (now : Standing) (fields : Connect) (made : Option Member) → AreFitting false (joining seed now fields made).announced
joining_fit seed now fields None = refl
joining_fit seed now fields (Some m) = refl

pub parting_fit : (seed : Seed) (member : Option Member) → AreFitting false (parting seed member).announced
parting_fit seed None = refl
parting_fit seed (Some m) = refl

member_fit : (seed : Seed) (now : Standing) (members : List Member) (m : Member) (packet : Packet) → AreFitting (is_bounce packet) (member_effect seed now members m packet).announced
member_fit seed now members m (connect fields) = refl
member_fit seed now members m (connect_update u) = tags_fit seed m.tags (updated m u)
member_fit seed now members m sync = refl
member_fit seed now members m (location_checks numbers) = sends_fit seed (new_checks seed now.checked m.team m.slot numbers)
member_fit seed now members m (location_scouts numbers as_hint) = hints_fit seed now (scouts_told seed now m numbers as_hint (hints_scouted seed now m numbers as_hint))
member_fit seed now members m (update_hint u) = refl
member_fit seed now members m (status_update s) = records_fit seed (status_records seed now m s)
member_fit seed now members m (say text) = saying_fit seed now members m (said_of text)
member_fit seed now members m (get_data_package games) = refl
member_fit seed now members m (bounce b) = refl
member_fit seed now members m (get keys further) = refl
member_fit seed now members m (change set) = storing_fit now m set (set_case now.storage set)
member_fit seed now members m (set_notify keys) = refl

stranger_fit : (seed : Seed) (now : Standing) (packet : Packet) → AreFitting (is_bounce packet) (stranger_effect seed now packet).announced
stranger_fit seed now (connect fields) = joining_fit seed now fields (member_by seed fields)
stranger_fit seed now (get_data_package games) = refl
stranger_fit seed now (connect_update u) = refl
stranger_fit seed now sync = refl
stranger_fit seed now (location_checks numbers) = refl
stranger_fit seed now (location_scouts numbers as_hint) = refl
stranger_fit seed now (update_hint u) = refl
stranger_fit seed now (status_update s) = refl
stranger_fit seed now (say text) = refl
stranger_fit seed now (bounce b) = refl
stranger_fit seed now (get keys further) = refl
stranger_fit seed now (change set) = refl
stranger_fit seed now (set_notify keys) = refl

packet_fit : (seed : Seed) (now : Standing) (members : List Member) (member : Option Member) (packet : Packet) → AreFitting (is_bounce packet) (effect_of seed now members member packet).announced
packet_fit seed now members None packet = stranger_fit seed now packet
packet_fit seed now members (Some m) packet = member_fit seed now members m packet

-- what an event tells beside answers and growth
pub event_fit : (room : Room) (event : Event) → AreFitting (is_bounced event) (effect_in room event).announced
event_fit room (opened time) = refl
event_fit room (sent number packet) = packet_fit room.seed (standing room.seed room.journal) (members_in room.sessions) (member_in room.sessions number) packet
event_fit room (failed number bad) = refl
event_fit room (lost number) = parting_fit room.seed (member_in room.sessions number)
