-- A client's list follows the view.
use Rattle.std.proofs.Common.{◌≡◌, ◌⊎◌, inl, inr, ℕ, ◌==◌, ◌&&◌, List, Bool, true, false, cond, ◌∷◌, [], ◌++◌, Option, Some, None, is_some, IsSomeAnd, map, length, take, drop, filter, refl, sym, ap, subst, ◌∙◌, append-nil, true≢false, eqb-true, IsFalse, take_all, ◌+◌, le_refl, arith}
use Rattle.std.proofs.lemmas.Bool.{cond_both, both_ways, not-false}
use Rattle.std.specs.List.{list_all}
use Rattle.mw_model.specs.Items.{NetItem}
use Rattle.mw_model.specs.Seed.{Seed}
use Rattle.mw_protocol.specs.Asked.{view}
use Rattle.mw_protocol.specs.Checks.{view_in}
use Rattle.mw_protocol.specs.Connecting.{Member, member_by, updated}
use Rattle.mw_protocol.specs.Effect.{Effect}
use Rattle.mw_protocol.specs.Effects.{stranger_effect, member_effect, effect_of}
use Rattle.mw_protocol.specs.Entering.{joining}
use Rattle.mw_protocol.specs.Messages.{ServerPacket, room_info, connected, received_items, room_update, connection_refused, location_info, data_package, invalid_packet, print, retrieved, set_reply, bounced}
use Rattle.mw_protocol.specs.Owed.{items_from, owed, answers_to, view_of}
use Rattle.mw_protocol.specs.Packets.{Packet, Connect, connect, connect_update, sync, location_checks, location_scouts, update_hint, status_update, say, get_data_package, bounce, get, change, set_notify}
use Rattle.mw_protocol.specs.Players.{room_info_of}
use Rattle.mw_protocol.specs.Rooms.{Message, Session, Room, Event, opened, sent, failed, lost, is_full, text_of, untaken, overrun_by, with_message, with_member, told, member_in, members_in, or_else, new_session, effect_in, next, empty_room}
use Rattle.mw_protocol.specs.Sayings.{said_of}
use Rattle.mw_protocol.specs.Standing.{Standing, standing}
use Rattle.mw_protocol.specs.Storage.{set_case}
use Rattle.mw_protocol.specs.Storing.{watched, with_keys}
use Rattle.mw_laws.specs.Clients.{hear_packets, hear_messages, client_list, ClientsFollow}
use Rattle.mw_laws.specs.Told.{staying, newcomers, session_then}
use Rattle.mw_laws.specs.Turns.{Turn, happens, takes, after, after_all, room_after, now, is_of, member_then, owed_by}
use Rattle.mw_laws.specs.Views.{is_received_items, asks_whole, asks_by, view_then, view_before, items_told}
use Rattle.mw_laws.proofs.Answered.{view_is}
use Rattle.mw_laws.proofs.Each.{Each, each_with, each_map, each_in, each_without, each_taken, some_same, none_some}
use Rattle.mw_laws.proofs.Effects.{is_answer, saying_plain, storing_stays, parting_plain, event_answers}
use Rattle.mw_laws.proofs.Journals.{next_seed, all_seed}
use Rattle.mw_laws.proofs.Numbers.{IsNumbered, found, after_numbered}
use Rattle.mw_laws.proofs.Pairs.{each_append}
use Rattle.mw_laws.proofs.Sessions.{none_before, told_member}
use Rattle.mw_laws.proofs.Telling.{events_tell}
use Rattle.mw_laws.proofs.Viewing.{answers_none, items_at, items_are, asked_whole, grown_is}

-- ---- who asks for nothing sees as before

abbrev pub SeesAs : Member → Member → Type 0
SeesAs m k = (k.mask ≡ m.mask) × (k.team ≡ m.team) × (k.slot ≡ m.slot)

same_sees : (k m : Member) → Some k ≡ Some m → SeesAs m k
same_sees k m e = let is = some_same k m e in (ap (λ n. n.mask) is, ap (λ n. n.team) is, ap (λ n. n.slot) is)

-- a member after an effect was one before that saw the same
abbrev Sees : Option Member → Effect → Type 0
Sees member e = (m : Member) → or_else e.member member ≡ Some m → IsSomeAnd member (SeesAs m)

joining_sees : (seed : Seed) (s : Standing) (fields : Connect) (made : Option Member) → is_some made ≡ false → Sees None (joining seed s fields made)
joining_sees seed s fields None e m is = absurd (none_some m is)
joining_sees seed s fields (Some k) e m is = absurd (true≢false e)

stranger_sees : (seed : Seed) (s : Standing) (packet : Packet) → asks_whole seed None packet ≡ false → Sees None (stranger_effect seed s packet)
stranger_sees seed s (connect fields) e m is = joining_sees seed s fields (member_by seed fields) e m is
stranger_sees seed s (get_data_package games) e m is = absurd (none_some m is)
stranger_sees seed s (connect_update u) e m is = absurd (none_some m is)
stranger_sees seed s sync e m is = absurd (none_some m is)
stranger_sees seed s (location_checks numbers) e m is = absurd (none_some m is)
stranger_sees seed s (location_scouts numbers as_hint) e m is = absurd (none_some m is)
stranger_sees seed s (update_hint u) e m is = absurd (none_some m is)
stranger_sees seed s (status_update number) e m is = absurd (none_some m is)
stranger_sees seed s (say text) e m is = absurd (none_some m is)
stranger_sees seed s (bounce b) e m is = absurd (none_some m is)
stranger_sees seed s (get keys further) e m is = absurd (none_some m is)
stranger_sees seed s (change set) e m is = absurd (none_some m is)
stranger_sees seed s (set_notify keys) e m is = absurd (none_some m is)

member_sees : (seed : Seed) (s : Standing) (members : List Member) (k : Member) (packet : Packet) → asks_whole seed (Some k) packet ≡ false → Sees (Some k) (member_effect seed s members k packet)
member_sees seed s members k (connect fields) e m is = same_sees k m is
member_sees seed s members k (connect_update u) e m is =
    let new = updated k u in
    let same = same_sees new m is in
    (sym (eqb-true new.mask k.mask (not-false (new.mask == k.mask) e)) ∙ same.0, same.1, same.2)
member_sees seed s members k sync e m is = same_sees k m is
member_sees seed s members k (location_checks numbers) e m is = same_sees k m is
member_sees seed s members k (location_scouts numbers as_hint) e m is = same_sees k m is
member_sees seed s members k (update_hint u) e m is = same_sees k m is
member_sees seed s members k (status_update number) e m is = same_sees k m is
member_sees seed s members k (say text) e m is = same_sees k m (ap (λ made. or_else made (Some k)) (sym (saying_plain seed s members k (said_of text)).2) ∙ is)
member_sees seed s members k (get_data_package games) e m is = same_sees k m is
member_sees seed s members k (bounce b) e m is = same_sees k m is
member_sees seed s members k (get keys further) e m is = same_sees k m is
member_sees seed s members k (change set) e m is = same_sees k m (ap (λ made. or_else made (Some k)) (sym (storing_stays s k set (set_case s.storage set)).2) ∙ is)
member_sees seed s members k (set_notify keys) e m is = same_sees (with_keys (watched k.keys keys) k) m is

packet_sees : (seed : Seed) (s : Standing) (members : List Member) (member : Option Member) (packet : Packet) → asks_whole seed member packet ≡ false → Sees member (effect_of seed s members member packet)
packet_sees seed s members None packet e = stranger_sees seed s packet e
packet_sees seed s members (Some k) packet e = member_sees seed s members k packet e

plain_sees : (member : Option Member) (m : Member) → member ≡ Some m → IsSomeAnd member (SeesAs m)
plain_sees None m e = absurd (none_some m e)
plain_sees (Some k) m e = same_sees k m e

pub event_sees : (room : Room) (event : Event) (s : Session) (m : Member) → member_in room.sessions s.number ≡ s.member → asks_by room event s ≡ false → member_then room event s ≡ Some m → IsSomeAnd s.member (SeesAs m)
event_sees room (opened time) s m has asks is = plain_sees s.member m is
event_sees room (failed sender bad) s m has asks is =
    elim (s.number == sender) as (λ b. cond b (or_else None s.member) s.member ≡ Some m → IsSomeAnd s.member (SeesAs m)) [ true ↦ plain_sees s.member m | false ↦ plain_sees s.member m ] is
event_sees room (lost sender) s m has asks is =
    elim (s.number == sender) as (λ b. cond b (or_else (effect_in room (lost sender)).member s.member) s.member ≡ Some m → IsSomeAnd s.member (SeesAs m)) [
      | true ↦ λ e. plain_sees s.member m (ap (λ made. or_else made s.member) (sym (parting_plain room.seed (member_in room.sessions sender)).2) ∙ e)
      | false ↦ plain_sees s.member m
    ] is
event_sees room (sent sender packet) s m has asks is =
    let made = (effect_in room (sent sender packet)).member in
    elim (s.number == sender) as (λ b. (s.number == sender) ≡ b → (b && asks_whole room.seed s.member packet) ≡ false → cond b (or_else made s.member) s.member ≡ Some m → IsSomeAnd s.member (SeesAs m)) [
      | true ↦ λ sends none e.
          let at : member_in room.sessions sender ≡ s.member = ap (member_in room.sessions) (sym (eqb-true s.number sender sends)) ∙ has in
          subst (λ member. IsSomeAnd member (SeesAs m)) at
          (packet_sees room.seed (now room) (members_in room.sessions) (member_in room.sessions sender) packet (ap (λ member. asks_whole room.seed member packet) at ∙ none) m
          (ap (or_else made) at ∙ e))
      | false ↦ λ _ _ e. plain_sees s.member m e
    ] refl asks is

-- ---- a list that hears

-- only ReceivedItems change it
hear_filter : (list : List NetItem) (ps : List ServerPacket) → hear_packets list ps ≡ hear_packets list (filter is_received_items ps)
hear_filter list [] = refl
hear_filter list (received_items index items ∷ ps) = hear_filter (take index list ++ items) ps
hear_filter list (room_info info ∷ ps) = hear_filter list ps
hear_filter list (connected c ∷ ps) = hear_filter list ps
hear_filter list (room_update locations points ∷ ps) = hear_filter list ps
hear_filter list (connection_refused errors ∷ ps) = hear_filter list ps
hear_filter list (location_info items ∷ ps) = hear_filter list ps
hear_filter list (data_package content ∷ ps) = hear_filter list ps
hear_filter list (invalid_packet bad ∷ ps) = hear_filter list ps
hear_filter list (print p ∷ ps) = hear_filter list ps
hear_filter list (retrieved r ∷ ps) = hear_filter list ps
hear_filter list (set_reply r ∷ ps) = hear_filter list ps
hear_filter list (bounced b ∷ ps) = hear_filter list ps

hear_push : (list : List NetItem) (ms : List Message) (m : Message) → hear_messages list (ms ++ m ∷ []) ≡ hear_packets (hear_messages list ms) m.packets
hear_push list [] m = refl
hear_push list (n ∷ ms) m = hear_push (hear_packets list n.packets) ms m

hear_whole : (list items : List NetItem) → (hear_packets list (items_from 0 items) ≡ items) ⊎ (items ≡ [])
hear_whole list [] = inr refl
hear_whole list (i ∷ is) = inl refl

hear_more : (list before more : List NetItem) → (list ≡ before) ⊎ (before ≡ []) → (hear_packets list (items_from (length before) more) ≡ before ++ more) ⊎ (before ++ more ≡ [])
hear_more list before [] (inl e) = inl (e ∙ sym (append-nil before))
hear_more list before [] (inr e) = inr (append-nil before ∙ e)
hear_more list before (i ∷ is) (inl e) = inl (ap (λ xs. xs ++ i ∷ is) (ap (take (length before)) e ∙ take_all (length before) before (le_refl (length before))))
hear_more list before (i ∷ is) (inr e) = inl (ap (λ xs. take (length xs) list ++ i ∷ is) e ∙ ap (λ xs. xs ++ i ∷ is) (sym e))

hear_tail : (list before then : List NetItem) → before ++ drop (length before) then ≡ then → (list ≡ before) ⊎ (before ≡ [])
    → (hear_packets list (items_from (length before) (drop (length before) then)) ≡ then) ⊎ (then ≡ [])
hear_tail list before then grown h =
    subst (λ xs. (hear_packets list (items_from (length before) (drop (length before) then)) ≡ xs) ⊎ (xs ≡ [])) grown (hear_more list before (drop (length before) then) h)

-- what holds of the list once it heard the packets holds of the client's, unless its session is overrun
told_hears : (P : List NetItem → Type 0) (packets : List ServerPacket) (length : ℕ) (s : Session)
    → (IsFalse s.overrun → P (hear_packets (client_list s) packets)) → IsFalse (told packets length s).overrun → P (client_list (told packets length s))
told_hears P [] length s h = h
told_hears P (p ∷ ps) length s h =
    let m : Message = record { packets = p ∷ ps; carries = length } in
    let full = is_full (map text_of (untaken s)) in
    let Q : Session → Type 0 = λ t. IsFalse t.overrun → P (client_list t) in
    cond_both s.overrun s (cond full (overrun_by s) (with_message m s)) Q (λ over fine. absurd (both_ways s.overrun fine over))
    (λ fine. cond_both full (overrun_by s) (with_message m s) Q (λ _ fails. absurd (true≢false fails)) (λ _ _. subst P (sym (hear_push [] s.owed m)) (h fine)))

-- ---- one event

-- the list of who plays no slot is empty, and that of a member its view, unless that is empty
abbrev Follow : Seed → Standing → Option Member → List NetItem → Type 0
Follow seed s None list = list ≡ []
Follow seed s (Some m) list = (list ≡ view_of seed s m) ⊎ (view_of seed s m ≡ [])

pub none_told : (seed : Seed) (before later : Standing) (effect : Effect) (sends : Bool) → list_all is_answer effect.answers ≡ true → filter is_received_items (owed seed before later effect sends None) ≡ []
none_told seed before later effect sends h =
    ap (filter is_received_items) (append-nil (answers_to sends effect ++ []) ∙ append-nil (answers_to sends effect)) ∙ answers_none sends effect h

same_view : (seed : Seed) (s : Standing) (k m : Member) → SeesAs m k → view_of seed s k ≡ view_of seed s m
same_view seed s k m sees =
    ap (λ mask. view_in seed mask k.team k.slot s.checked) sees.0 ∙ ap (λ team. view_in seed m.mask team k.slot s.checked) sees.1 ∙ ap (λ slot. view_in seed m.mask m.team slot s.checked) sees.2

follow_same : (seed : Seed) (s : Standing) (list : List NetItem) (member : Option Member) (m : Member) → IsSomeAnd member (SeesAs m) → Follow seed s member list → (list ≡ view_of seed s m) ⊎ (view_of seed s m ≡ [])
follow_same seed s list None m sees h = absurd sees
follow_same seed s list (Some k) m sees h = subst (λ v. (list ≡ v) ⊎ (v ≡ [])) (same_view seed s k m sees) h

follow_event : (room : Room) (event : Event) (s : Session) (list : List NetItem) → member_in room.sessions s.number ≡ s.member → Follow room.seed (now room) s.member list
    → (o : Option Member) → member_then room event s ≡ o → Follow room.seed (now (next room event)) o (hear_packets list (owed_by room event s))
follow_event room event s list has h None is =
    let before = none_before (effect_in room event) (is_of event s.number) s.member is in
    let none = ap (λ member. filter is_received_items (owed room.seed (now room) (now (next room event)) (effect_in room event) (is_of event s.number) member)) is
    ∙ none_told room.seed (now room) (now (next room event)) (effect_in room event) (is_of event s.number) (event_answers room event) in
    hear_filter list (owed_by room event s) ∙ ap (hear_packets list) none ∙ subst (λ member. Follow room.seed (now room) member list) before h
follow_event room event s list has h (Some m) is =
    let items : items_told room event s ≡ items_at (asks_by room event s) room event m = items_are room event s m is ∙ ap (λ w. items_at w room event m) (asked_whole room event s has) in
    let all : hear_packets list (owed_by room event s) ≡ hear_packets list (items_at (asks_by room event s) room event m) = hear_filter list (owed_by room event s) ∙ ap (hear_packets list) items in
    subst (λ heard. (heard ≡ view_then room event m) ⊎ (view_then room event m ≡ [])) (sym all)
    (elim (asks_by room event s) as (λ b. asks_by room event s ≡ b → (hear_packets list (items_at b room event m) ≡ view_then room event m) ⊎ (view_then room event m ≡ [])) [
      | true ↦ λ asks. hear_whole list (view_then room event m)
      | false ↦ λ asks. hear_tail list (view_before room m) (view_then room event m) (grown_is room event m) (follow_same room.seed (now room) list s.member m (event_sees room event s m has asks is) h)
    ] refl)

-- ---- rooms

abbrev Follows : Seed → Standing → Session → Type 0
Follows seed now s = IsFalse s.overrun → Follow seed now s.member (client_list s)

abbrev IsFollowing : Room → Type 0
IsFollowing room = Each (Follows room.seed (now room)) room.sessions

new_follows : (seed : Seed) (s : Standing) (room : Room) (time : ℕ) → Follows seed s (new_session room time)
new_follows seed s room time =
    let first : Session = record { number = room.opened + 1; member = None; owed = []; taken = 0; overrun = false } in
    let packets = room_info (room_info_of room.seed time) ∷ [] in
    λ fine. subst (λ member. Follow seed s member (client_list (new_session room time))) (sym (told_member packets (length room.journal) first))
    (told_hears (λ list. list ≡ []) packets (length room.journal) first (λ _. refl) fine)

then_follows : (room : Room) (event : Event) (s : Session) → member_in room.sessions s.number ≡ s.member → Follows room.seed (now room) s → Follows room.seed (now (next room event)) (session_then room event s)
then_follows room event s has h =
    let member = member_then room event s in
    let packets = owed_by room event s in
    let t = with_member member s in
    λ fine. subst (λ o. Follow room.seed (now (next room event)) o (client_list (session_then room event s))) (sym (told_member packets (length (next room event).journal) t))
    (told_hears (Follow room.seed (now (next room event)) member) packets (length (next room event).journal) t
    (λ kept. follow_event room event s (client_list s) has (h kept) member refl) fine)

pub staying_each : (P : Session → Type 0) (room : Room) (event : Event) → Each P room.sessions → Each P (staying room event)
staying_each P room (opened time) h = h
staying_each P room (sent sender packet) h = h
staying_each P room (failed sender bad) h = h
staying_each P room (lost sender) h = each_without P sender room.sessions h

newcomers_follow : (seed : Seed) (s : Standing) (room : Room) (event : Event) → Each (Follows seed s) (newcomers room event)
newcomers_follow seed s room (opened time) = (new_follows seed s room time, tt)
newcomers_follow seed s room (sent sender packet) = tt
newcomers_follow seed s room (failed sender bad) = tt
newcomers_follow seed s room (lost sender) = tt

next_following : (room : Room) (event : Event) → IsNumbered room → IsFollowing room → IsFollowing (next room event)
next_following room event numbered h =
    let P = Follows room.seed (now (next room event)) in
    let has = staying_each (λ s. member_in room.sessions s.number ≡ s.member) room event (found 0 room.opened room.sessions numbered) in
    let all : Each P (map (session_then room event) (staying room event) ++ newcomers room event) =
    each_append P (map (session_then room event) (staying room event)) (newcomers room event)
    (each_map P (session_then room event) (staying room event) (each_with (λ s. member_in room.sessions s.number ≡ s.member) (Follows room.seed (now room)) (λ s. P (session_then room event s))
    (then_follows room event) (staying room event) has (staying_each (Follows room.seed (now room)) room event h)))
    (newcomers_follow room.seed (now (next room event)) room event) in
    subst (λ seed. Each (Follows seed (now (next room event))) (next room event).sessions) (sym (next_seed room event)) (subst (Each P) (sym (events_tell room event)) all)

after_following : (room : Room) (turn : Turn) → IsNumbered room → IsFollowing room → IsFollowing (after room turn)
after_following room (happens event) numbered h = next_following room event numbered h
after_following room (takes number) numbered h = each_taken (Follows room.seed (now room)) number (λ s follows. follows) room.sessions h

all_following : (room : Room) (turns : List Turn) → IsNumbered room → IsFollowing room → IsFollowing (after_all room turns)
all_following room [] numbered h = h
all_following room (t ∷ ts) numbered h = all_following (after room t) ts (after_numbered room t numbered) (after_following room t numbered h)

pub clients_follow : ClientsFollow
clients_follow seed turns number s m is member fine =
    let room = room_after seed turns in
    let follows = each_in (Follows room.seed (now room)) room.sessions number s is (all_following (empty_room seed) turns (omega arith) tt) in
    let own : (client_list s ≡ view_of room.seed (now room) m) ⊎ (view_of room.seed (now room) m ≡ []) = subst (λ o. Follow room.seed (now room) o (client_list s)) member (follows fine) in
    let same : view_of room.seed (now room) m ≡ view seed m.mask m.team m.slot room.journal =
    ap (λ e. view_of e (standing e room.journal) m) (all_seed (empty_room seed) turns) ∙ view_is seed room.journal m in
    subst (λ v. (client_list s ≡ v) ⊎ (v ≡ [])) same own
