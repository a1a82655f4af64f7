-- A client's list only grows at its end.
use mathlib.Core.List.{IsPrefix}
use Rattle.std.proofs.Common.{◌≡◌, inl, ◌+◌, ◌<◌, ◌≤◌, ◌==◌, ℕ, zero, suc, true, false, cond, List, [], ◌∷◌, ◌++◌, All, AllPairs, Option, Some, None, map, filter, length, take, drop, refl, sym, ap, subst, ◌∙◌, arith, append_assoc, append-nil, true≢false, take_at, eqb-true}
use Rattle.std.proofs.lemmas.Bool.{cond_both, both_ways, and_parts}
use Rattle.std.proofs.lemmas.List.Elements.{All-nil, All-cons}
use Rattle.std.proofs.lemmas.List.Folds.{list_all-append}
use Rattle.std.proofs.lemmas.List.Kept.{AllPairs-cons}
use Rattle.std.specs.List.{list_all}
use Rattle.mw_model.specs.Items.{NetItem}
use Rattle.mw_model.specs.Seed.{Seed}
use Rattle.mw_protocol.specs.Asked.{view}
use Rattle.mw_protocol.specs.Checks.{view_in}
use Rattle.mw_protocol.specs.Connecting.{Member}
use Rattle.mw_protocol.specs.Lives as lives
use Rattle.mw_protocol.specs.Lives.{Life, Call, Luck, happens, commits, takes, Step, acts, crashes, new_life, reply_to, room_then, life_after, after_all, life_after_all}
use Rattle.mw_protocol.specs.Messages.{ServerPacket, room_info, connected, received_items, room_update, connection_refused, location_info, data_package, invalid_packet, print, retrieved, set_reply, bounced}
use Rattle.mw_protocol.specs.Owed.{items_from, view_of}
use Rattle.mw_protocol.specs.Players.{room_info_of}
use Rattle.mw_protocol.specs.Rooms.{Message, Session, Room, Event, opened, sent, failed, lost, with_member, with_message, new_session, member_in, session_in, next}
use Rattle.mw_protocol.specs.Standing.{standing}
use Rattle.mw_laws.specs.Applied.{Client, ClientsApply, applied_messages, applied_packets, given, having}
use Rattle.mw_laws.specs.Kept.{LivesKeep, Passes, is_call, is_done, journal_after}
use Rattle.mw_laws.specs.Strangers.{StrangersHear, is_for_strangers}
use Rattle.mw_laws.specs.Told.{EventsTell, newcomers, session_then, staying}
use Rattle.mw_laws.specs.Turns.{member_then, now, owed_by}
use Rattle.mw_laws.specs.Views.{IsToldItems, WholeViewsAreOwed, asks_by, is_received_items, items_told, view_before, view_then}
use Rattle.mw_laws.proofs.Journal.{standing_checked}
use Rattle.mw_client.specs.Lives.{AreHearings, Hearing, IsHearing, ListsOnlyGrow, lists_heard, lists_of, messages_of, run_after, run_before}
use Rattle.mw_client.proofs.Finding.{copies, copies_append, copies_map, copies_taken, copies_without, none_copies, found_among, found_by, found_taken, found_without, none_some, some_same, told_any, told_number}
use Rattle.mw_client.proofs.Fronts.{IsOf, Since, Stays, first_stays, front_heard, heard_of, hears, never, since_opened, stay_on}
use Rattle.mw_client.proofs.Slots.{Plays, plays_before}

-- ---- lists that grow

-- each list is a front of the next, from a list on
abbrev pub Rises : List NetItem → List (List NetItem) → Type 0
Rises list [] = Unit {0}
Rises list (l ∷ ls) = IsPrefix list l × Rises l ls

prefix_same : (xs : List NetItem) → IsPrefix xs xs
prefix_same xs = ([], append-nil xs)

prefix_through : (xs ys zs : List NetItem) → IsPrefix xs ys → IsPrefix ys zs → IsPrefix xs zs
prefix_through xs ys zs h k = (h.0 ++ k.0, sym (append_assoc xs h.0 k.0) ∙ ap (λ (front : List NetItem). front ++ k.0) h.1 ∙ k.1)

rises_below : (low list : List NetItem) (ls : List (List NetItem)) → IsPrefix low list → Rises list ls → All (IsPrefix low) ls
rises_below low list [] le h = All-nil (IsPrefix low)
rises_below low list (l ∷ ls) le h =
    let first : IsPrefix low l = prefix_through low list l le h.0 in
    All-cons (IsPrefix low) l ls first (rises_below low l ls first h.1)

-- then each is a front of each later one
rises_pairs : (list : List NetItem) (ls : List (List NetItem)) → Rises list ls → AllPairs IsPrefix ls
rises_pairs list [] h = λ i j d lt short. absurd (omega (arith, short))
rises_pairs list (l ∷ ls) h = AllPairs-cons IsPrefix l ls (rises_below l l ls (prefix_same l) h.1) (rises_pairs l ls h.1)

-- a client's list grows with each message
abbrev pub Grows : Client → List Message → Type 0
Grows c ms = Rises c.list (lists_heard c ms)

grows_take : (count : ℕ) (c : Client) (ms : List Message) → Grows c ms → Grows c (take count ms)
grows_take zero c ms h = tt
grows_take (suc count) c [] h = tt
grows_take (suc count) c (m ∷ ms) h = (h.0, grows_take count (applied_packets c m.packets) ms h.1)

grows_push : (c : Client) (ms : List Message) (m : Message) → Grows c ms → IsPrefix (applied_messages c ms).list (applied_packets (applied_messages c ms) m.packets).list → Grows c (ms ++ m ∷ [])
grows_push c [] m h more = (more, tt)
grows_push c (k ∷ ms) m h more = (h.0, grows_push (applied_packets c k.packets) ms m h.1 more)

grows_then : (c : Client) (ms : List Message) (ls : List (List NetItem)) → Grows c ms → Rises (applied_messages c ms).list ls → Rises c.list (lists_heard c ms ++ ls)
grows_then c [] ls h k = k
grows_then c (m ∷ ms) ls h k = (h.0, grows_then (applied_packets c m.packets) ms ls h.1 k)

-- ---- packets

-- only ReceivedItems change a list
applied_filter : (c : Client) (ps : List ServerPacket) → applied_packets c ps ≡ applied_packets c (filter is_received_items ps)
applied_filter c [] = refl
applied_filter c (received_items index items ∷ ps) = applied_filter (given c index items) ps
applied_filter c (room_info info ∷ ps) = applied_filter c ps
applied_filter c (connected fields ∷ ps) = applied_filter c ps
applied_filter c (room_update locations points ∷ ps) = applied_filter c ps
applied_filter c (connection_refused errors ∷ ps) = applied_filter c ps
applied_filter c (location_info items ∷ ps) = applied_filter c ps
applied_filter c (data_package content ∷ ps) = applied_filter c ps
applied_filter c (invalid_packet bad ∷ ps) = applied_filter c ps
applied_filter c (print p ∷ ps) = applied_filter c ps
applied_filter c (retrieved r ∷ ps) = applied_filter c ps
applied_filter c (set_reply r ∷ ps) = applied_filter c ps
applied_filter c (bounced b ∷ ps) = applied_filter c ps

-- and there is none for who plays no slot
stranger_quiet : (c : Client) (ps : List ServerPacket) → list_all is_for_strangers ps ≡ true → applied_packets c ps ≡ c
stranger_quiet c [] h = refl
stranger_quiet c (room_info info ∷ ps) h = stranger_quiet c ps h
stranger_quiet c (connection_refused errors ∷ ps) h = stranger_quiet c ps h
stranger_quiet c (data_package content ∷ ps) h = stranger_quiet c ps h
stranger_quiet c (invalid_packet bad ∷ ps) h = stranger_quiet c ps h
stranger_quiet c (connected fields ∷ ps) h = absurd (true≢false (sym h))
stranger_quiet c (received_items index items ∷ ps) h = absurd (true≢false (sym h))
stranger_quiet c (room_update locations points ∷ ps) h = absurd (true≢false (sym h))
stranger_quiet c (location_info items ∷ ps) h = absurd (true≢false (sym h))
stranger_quiet c (print p ∷ ps) h = absurd (true≢false (sym h))
stranger_quiet c (retrieved r ∷ ps) h = absurd (true≢false (sym h))
stranger_quiet c (set_reply r ∷ ps) h = absurd (true≢false (sym h))
stranger_quiet c (bounced b ∷ ps) h = absurd (true≢false (sym h))

-- items from an index on leave it a front, where those from 0 do
items_grow : (c : Client) (index : ℕ) (items : List NetItem) → (index ≡ 0 → IsPrefix c.list items) → IsPrefix c.list (applied_packets c (items_from index items)).list
items_grow c index [] whole = prefix_same c.list
items_grow c index (i ∷ is) whole =
    let new : Client = record { list = i ∷ is; asks = c.asks } in
    let more : Client = record { list = c.list ++ i ∷ is; asks = c.asks } in
    let asking : Client = record { list = c.list; asks = true } in
    let P : Client → Type 0 = λ d. IsPrefix c.list d.list in
    cond_both (index == 0) new (cond (index == length c.list) more asking) P (λ first. whole (eqb-true index 0 first))
    (λ _. cond_both (index == length c.list) more asking P (λ _. (i ∷ is, refl)) (λ _. prefix_same c.list))

-- what an event tells leaves a front, where the list is a front of the view then
told_grow : (room : Room) (event : Event) (s : Session) (m : Member) (c : Client) → IsToldItems room event s m → IsPrefix c.list (view_then room event m) → IsPrefix c.list (applied_packets c (owed_by room event s)).list
told_grow room event s m c h front =
    let whole : List NetItem = view_then room event m in
    let before : ℕ = length (view_before room m) in
    let P : List ServerPacket → Type 0 = λ ps. IsPrefix c.list (applied_packets c ps).list in
    subst (λ (d : Client). IsPrefix c.list d.list) (sym (applied_filter c (owed_by room event s)))
    (elim (asks_by room event s) as (λ b. asks_by room event s ≡ b → P (items_told room event s)) [
      | true ↦ λ asks. subst P (sym (h.whole asks)) (items_grow c 0 whole (λ _. front))
      | false ↦ λ quiet. subst P (sym (h.tail quiet)) (items_grow c before (drop before whole) (λ none. subst (λ (n : ℕ). IsPrefix c.list (drop n whole)) (sym none) front))
    ] refl)

-- ---- one event

module _ (events : EventsTell) (views : WholeViewsAreOwed) (strangers : StrangersHear) (seed : Seed) (team slot number : ℕ) (list : List NetItem) where
  -- what is known of a room: of each count of messages of the session the client has a front of the view
  record Known (room : Room) : Type 0 where
    own : room.seed ≡ seed
    front : (s : Session) (m : Member) → session_in room.sessions number ≡ Some s → s.member ≡ Some m → Plays team slot (Some m)
        → (m.mask ≡ 7) × ((count : ℕ) → IsPrefix (applied_messages (having list) (take count s.owed)).list (view seed 7 team slot room.journal))

  -- its list grew
  abbrev Grew : Room → Session → Type 0
  Grew room s = session_in room.sessions number ≡ Some s → Plays team slot s.member → Grows (having list) s.owed

  record Keeps (room : Room) : Type 0 where
    few : copies number room.sessions ≤ 1
    none : room.opened < number → copies number room.sessions ≡ 0
    grew : (s : Session) → Grew room s

  view_known : (room : Room) (event : Event) (m : Member) → room.seed ≡ seed → (next room event).seed ≡ seed → m.mask ≡ 7 → Plays team slot (Some m) → view seed 7 team slot (next room event).journal ≡ view_then room event m
  view_known room event m was is mask plays =
      let journal = (next room event).journal in
      sym (ap (λ (e : Seed). view_of e (now (next room event)) m) was
      ∙ ap (λ (e : Seed). view_of seed (standing e journal) m) is
      ∙ ap (view_in seed m.mask m.team m.slot) (standing_checked seed journal)
      ∙ ap (λ (n : ℕ). view seed n m.team m.slot journal) mask
      ∙ ap (λ (n : ℕ). view seed 7 n m.slot journal) plays.0
      ∙ ap (λ (n : ℕ). view seed 7 team n journal) plays.1)

  module _ (room : Room) (event : Event) (own : room.seed ≡ seed) (h : Keeps room) (known : Known (next room event)) where
    abbrev message_of : Session → Message
    message_of s = record { packets = owed_by room event s; carries = length (next room event).journal }

    -- a session with the message
    told_more : (s : Session) → session_in room.sessions number ≡ Some s → Grows (having list) s.owed → Grew (next room event) (with_message (message_of s) (with_member (member_then room event s) s))
    told_more s found grew is plays = grows_push (having list) s.owed (message_of s) grew (by_member (member_then room event s) refl)
      where
        then : Session
        then = with_message (message_of s) (with_member (member_then room event s) s)

        client : Client
        client = applied_messages (having list) s.owed

        by_member : (member : Option Member) → member_then room event s ≡ member → IsPrefix client.list (applied_packets client (owed_by room event s)).list
        by_member None none =
            subst (λ (d : Client). IsPrefix client.list d.list) (sym (stranger_quiet client (owed_by room event s) (strangers.events room event number s found none))) (prefix_same client.list)
        by_member (Some m) now_plays =
            let fits : Plays team slot (Some m) = subst (Plays team slot) now_plays plays in
            let fronts = known.front then m is now_plays fits in
            let all : take (length s.owed) (s.owed ++ message_of s ∷ []) ≡ s.owed = take_at s.owed (message_of s ∷ []) (length s.owed) refl in
            told_grow room event s m client (views room event number s m found now_plays)
            (subst (IsPrefix client.list) (view_known room event m own known.own fronts.0 fits)
            (subst (λ (ms : List Message). IsPrefix (applied_messages (having list) ms).list (view seed 7 team slot (next room event).journal)) all (fronts.1 (length s.owed))))

    stays_found : (e : Event) (s : Session) → session_in (staying room e) number ≡ Some s → session_in room.sessions number ≡ Some s
    stays_found (opened time) s is = is
    stays_found (sent sender packet) s is = is
    stays_found (failed sender bad) s is = is
    stays_found (lost sender) s is = found_without number sender room.sessions s h.few is

    staying_grew : (s : Session) → session_in (staying room event) number ≡ Some s → Grew (next room event) (session_then room event s)
    staying_grew s is =
        let found : session_in room.sessions number ≡ Some s = stays_found event s is in
        let by = found_by number room.sessions s found in
        let has : member_in room.sessions s.number ≡ s.member = ap (member_in room.sessions) by.0 ∙ by.1 in
        let then : Session = with_member (member_then room event s) s in
        let grew : Plays team slot then.member → Grows (having list) s.owed = λ plays. h.grew s found (plays_before team slot room event s has plays) in
        told_any (Grew (next room event)) (owed_by room event s) (length (next room event).journal) then
        (λ _ plays. grew plays)
        (λ _ plays. grows_take s.taken (having list) s.owed (grew plays))
        (λ found_then plays. told_more s found (grew plays) found_then plays)

    -- one that is just opened
    new_grows : (time : ℕ) → Grows (having list) (new_session room time).owed
    new_grows time =
        told_any (λ t. Grows (having list) t.owed) (room_info (room_info_of room.seed time) ∷ []) (length room.journal)
        record { number = room.opened + 1; member = None; owed = []; taken = 0; overrun = false } tt tt (prefix_same list, tt)

    newcomer_grew : (e : Event) (s : Session) → session_in (newcomers room e) number ≡ Some s → Grew (next room event) s
    newcomer_grew (opened time) s is =
        let new : Session = new_session room time in
        elim (new.number == number) as (λ b. cond b (Some new) None ≡ Some s → Grew (next room event) s) [
          | true ↦ λ same. subst (Grew (next room event)) (some_same new s same) (λ _ _. new_grows time)
          | false ↦ λ none. absurd (none_some s none)
        ] is
    newcomer_grew (sent sender packet) s is = absurd (none_some s is)
    newcomer_grew (failed sender bad) s is = absurd (none_some s is)
    newcomer_grew (lost sender) s is = absurd (none_some s is)

    then_number : (s : Session) → (session_then room event s).number ≡ s.number
    then_number s = told_number (owed_by room event s) (length (next room event).journal) (with_member (member_then room event s) s)

    then_grew : (s : Session) → Grew (next room event) s
    then_grew s is =
        found_among number (session_then room event) then_number (Grew (next room event)) (staying room event) (newcomers room event) staying_grew (newcomer_grew event) s
        (subst (λ ss. session_in ss number ≡ Some s) (events room event) is) is

    then_copies : copies number (next room event).sessions ≡ copies number (staying room event) + copies number (newcomers room event)
    then_copies =
        ap (copies number) (events room event)
        ∙ copies_append number (map (session_then room event) (staying room event)) (newcomers room event)
        ∙ ap (λ (n : ℕ). n + copies number (newcomers room event)) (copies_map number (session_then room event) then_number (staying room event))

    -- no two have the number, and none before it is given
    abbrev Counted : Event → Type 0
    Counted e = (copies number (staying room e) + copies number (newcomers room e) ≤ 1) × ((next room e).opened < number → copies number (staying room e) + copies number (newcomers room e) ≡ 0)

    counted : (e : Event) → Counted e
    counted (opened time) =
        let new : Session = new_session room time in
        let given : new.number ≡ room.opened + 1 = told_number (room_info (room_info_of room.seed time) ∷ []) (length room.journal) record { number = room.opened + 1; member = None; owed = []; taken = 0; overrun = false } in
        let old : ℕ = copies number room.sessions in
        elim (new.number == number) as (λ b. (new.number == number) ≡ b → (old + (cond b 1 0 + 0) ≤ 1) × (room.opened + 1 < number → old + (cond b 1 0 + 0) ≡ 0)) [
          | true ↦ λ same.
              let is : new.number ≡ number = eqb-true new.number number same in
              let none : old ≡ 0 = h.none (omega (arith, is, given)) in
              (omega (arith, none), λ low. absurd (omega (arith, is, given, low)))
          | false ↦ λ _. (omega (arith, h.few), λ low. omega (arith, h.none (omega (arith, low))))
        ] refl
    counted (sent sender packet) = (omega (arith, h.few), λ low. omega (arith, h.none low))
    counted (failed sender bad) = (omega (arith, h.few), λ low. omega (arith, h.none low))
    counted (lost sender) =
        let fewer = copies_without number sender room.sessions in
        (omega (arith, h.few, fewer), λ low. omega (arith, h.none low, fewer))

    event_keeps : Keeps (next room event)
    event_keeps = record {
      few = omega (arith, then_copies, (counted event).0);
      none = λ low. then_copies ∙ (counted event).1 low;
      grew = then_grew;
    }

  taken_grew : (room : Room) (other : ℕ) → Keeps room → (s : Session) → Grew (room_then room (takes other)) s
  taken_grew room other h s is =
      found_taken number (λ t. Plays team slot t.member → Grows (having list) t.owed) (λ t grew. grew) other room.sessions h.grew s is

  call_keeps : (room : Room) (call : Call) → room.seed ≡ seed → Keeps room → Known (room_then room call) → Keeps (room_then room call)
  call_keeps room (happens event) own h known = event_keeps room event own h known
  call_keeps room commits own h known = h
  call_keeps room (takes other) own h known =
      let same = copies_taken number other room.sessions in
      record { few = omega (arith, h.few, same); none = λ low. same ∙ h.none low; grew = taken_grew room other h }

-- ---- runs

later_life : (life : Life) (steps more : List Step) → after_all life (steps ++ more) ≡ after_all (after_all life steps) more
later_life life [] more = refl
later_life life (s ∷ ss) more = later_life (lives.after life s) ss more

one_more : (seed : Seed) (steps : List Step) (s : Step) → life_after_all seed (steps ++ s ∷ []) ≡ lives.after (life_after_all seed steps) s
one_more seed steps s = later_life (new_life seed [] 40) steps (s ∷ [])

-- what holds of no steps, and is kept by each further one, holds of each run
module _ (P : List Step → Type 0) (keeps : (front : List Step) (s : Step) → P front → P (front ++ s ∷ [])) where
  from_front : (front rest : List Step) → P front → P (front ++ rest)
  from_front front [] h = subst P (sym (append-nil front)) h
  from_front front (s ∷ ss) h = subst P (append_assoc front (s ∷ []) ss) (from_front (front ++ s ∷ []) ss (keeps front s h))

-- what holds of a room, and of the one that a call leaves which passes, holds after the call
after_call : LivesKeep → (life : Life) (call : Call) (luck : Luck) (Q : Room → Type 0) → Q life.room → (Passes life call luck → Q (room_then life.room call)) → Q (life_after life call luck).room
after_call keep life call luck Q same then =
    let keeps = keep.calls life call luck in
    elim (is_done (reply_to life call luck)) as (λ b. is_done (reply_to life call luck) ≡ b → Q (life_after life call luck).room) [
      | true ↦ λ done. subst Q (sym (keeps.room (keeps.done.0 done))) (then (keeps.done.0 done))
      | false ↦ λ not_done. subst Q (sym (keeps.otherwise (λ passes. absurd (both_ways (is_done (reply_to life call luck)) not_done (keeps.done.1 passes))))) same
    ] refl

calls_front : (front back : List Step) → list_all is_call (front ++ back) ≡ true → (list_all is_call front ≡ true) × (list_all is_call back ≡ true)
calls_front front back calls = and_parts (list_all is_call front) (list_all is_call back) (sym (list_all-append is_call front back) ∙ calls)

module _ (laws : ClientsApply) (keep : LivesKeep) (events : EventsTell) (views : WholeViewsAreOwed) (strangers : StrangersHear) (seed : Seed) (team slot : ℕ) where
  module _ (start : List Step) (number : ℕ) (list : List NetItem) (stays : Stays laws seed team slot start (having list)) where
    abbrev RoomAt : List Step → Room
    RoomAt back = (life_after_all seed (start ++ back)).room

    abbrev KeepsAt : List Step → Type 0
    KeepsAt back = Since seed start back number → Keeps events views strangers seed team slot number list (RoomAt back)

    known_at : (back : List Step) (s : Step) → Since seed start (back ++ s ∷ []) number → Known events views strangers seed team slot number list (RoomAt (back ++ s ∷ []))
    known_at back s since = record {
      own = keep.seed seed (start ++ (back ++ s ∷ []));
      front = λ t m found plays fits.
          let member = (found_by number (RoomAt (back ++ s ∷ [])).sessions t found).1 ∙ plays in
          let masked : m.mask ≡ 7 =
          since.masks back s [] m refl (subst (λ (run : List Step). member_in (life_after_all seed run).room.sessions number ≡ Some m) (sym (append_assoc start back (s ∷ []))) member) in
          let own : IsOf seed (start ++ (back ++ s ∷ [])) team slot number t = record { found = found; member = m; plays = plays; own_team = fits.0; own_slot = fits.1; mask = masked } in (
            masked,
            λ count.
                subst (λ (run : List Step). IsPrefix (applied_messages (having list) (take count t.owed)).list (view seed 7 team slot (journal_after seed run))) (append-nil (start ++ (back ++ s ∷ [])))
                (front_heard laws seed team slot start (back ++ s ∷ []) number since t own count [] (inl refl) list stays).front,
          );
    }

    -- as it was before a further step
    since_front : (back : List Step) (s : Step) → Since seed start (back ++ s ∷ []) number → Since seed start back number
    since_front back s since = record {
      unopened = since.unopened;
      calls = (calls_front back (s ∷ []) since.calls).0;
      masks = λ first t rest m split. since.masks first t (rest ++ s ∷ []) m (ap (λ (run : List Step). run ++ s ∷ []) split ∙ append_assoc first (t ∷ rest) (s ∷ []));
    }

    keeps_more : (back : List Step) (s : Step) → KeepsAt back → KeepsAt (back ++ s ∷ [])
    keeps_more back (crashes more place) h since = absurd (true≢false (sym (calls_front back (crashes more place ∷ []) since.calls).1))
    keeps_more back (acts call luck) h since =
        let s : Step = acts call luck in
        let life : Life = life_after_all seed (start ++ back) in
        let Q : Room → Type 0 = λ room. Known events views strangers seed team slot number list room → Keeps events views strangers seed team slot number list room in
        let whole : life_after_all seed (start ++ (back ++ s ∷ [])) ≡ life_after life call luck =
        ap (life_after_all seed) (sym (append_assoc start back (s ∷ []))) ∙ one_more seed (start ++ back) s in
        let before = h (since_front back s since) in
        subst (λ (then : Life). Q then.room) (sym whole)
        (after_call keep life call luck Q (λ _. before) (λ _ known. call_keeps events views strangers seed team slot number list life.room call (keep.seed seed (start ++ back)) before known))
        (known_at back s since)

    keeps_first : KeepsAt []
    keeps_first since =
        subst (λ (run : List Step). Keeps events views strangers seed team slot number list (life_after_all seed run).room) (sym (append-nil start))
        (let none = none_copies number (life_after_all seed start).room.sessions since.unopened in
        record {
          few = omega (arith, none);
          none = λ _. none;
          grew = λ s found. absurd (none_some s (sym since.unopened ∙ found));
        })

    keeps_since : (back : List Step) → KeepsAt back
    keeps_since back = from_front KeepsAt keeps_more [] back keeps_first

  -- ---- sessions

  hearing_grows : (steps : List Step) (h : Hearing) (c : Client) → Stays laws seed team slot steps c → IsHearing seed team slot steps h → Grows c (messages_of seed steps h)
  hearing_grows steps h c stays is =
      let same : c ≡ having c.list = never laws seed team slot c (stays []).asks in
      let before : Stays laws seed team slot (run_before steps h) (having c.list) = stay_on laws seed team slot steps h.waits (having c.list) (subst (Stays laws seed team slot steps) same stays) in
      let keeps = keeps_since (run_before steps h) h.number c.list before h.life (since_opened laws seed team slot steps h is) in
      let grew : Grows (having c.list) is.session.owed = keeps.grew is.session is.found (subst (Plays team slot) (sym is.plays) (is.own_team, is.own_slot)) in
      subst (λ (d : Client). Grows d (messages_of seed steps h)) (sym same)
      (subst (Grows (having c.list)) (sym (heard_of laws seed team slot steps h is)) (grows_take h.count (having c.list) is.session.owed grew))

  lists_rise : (steps : List Step) (c : Client) (hs : List Hearing) → Stays laws seed team slot steps c → AreHearings seed team slot steps hs → Rises c.list (lists_of seed steps c hs)
  lists_rise steps c [] stays are = tt
  lists_rise steps c (h ∷ hs) stays are =
      let ms : List Message = messages_of seed steps h in
      grows_then c ms (lists_of seed (run_after steps h) (applied_messages c ms) hs) (hearing_grows steps h c stays are.0)
      (lists_rise (run_after steps h) (applied_messages c ms) hs (hears laws seed team slot steps h c stays are.0) are.1)

pub lists_only_grow : ClientsApply → LivesKeep → EventsTell → WholeViewsAreOwed → StrangersHear → ListsOnlyGrow
lists_only_grow laws keep events views strangers seed team slot hearings are =
    rises_pairs [] (lists_of seed [] (having []) hearings) (lists_rise laws keep events views strangers seed team slot [] (having []) hearings (first_stays laws seed team slot) are)
