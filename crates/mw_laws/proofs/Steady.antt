-- Along any run the client of a session whose mask stays never asks for Sync.
use mathlib.Core.List.{IsPrefix}
use Rattle.std.proofs.Common.{◌≡◌, ◌⊎◌, inl, inr, ℕ, ◌+◌, ◌≤◌, ◌==◌, List, Bool, true, false, cond, ◌∷◌, [], ◌++◌, Option, Some, None, IsTrue, IsFalse, map, length, take, drop, refl, sym, ap, subst, ◌∙◌, append_assoc, append-nil, arith, true≢false, eqb-true, le_refl}
use Rattle.std.proofs.lemmas.Bool.{and_from, and_parts, cond_both, both_ways}
use Rattle.std.proofs.lemmas.List.{drop-append-le, drop_all, length-append, take-append-le, take_all}
use Rattle.std.specs.List.{list_all}
use Rattle.mw_model.specs.Items.{NetItem}
use Rattle.mw_model.specs.Seed.{Seed}
use Rattle.mw_protocol.specs.Asked.{view}
use Rattle.mw_protocol.specs.Connecting.{Member}
use Rattle.mw_protocol.specs.Lives.{Call, happens, commits, takes, Step, acts, crashes, room_then, life_after, life_after_all}
use Rattle.mw_protocol.specs.Messages.{ServerPacket, room_info}
use Rattle.mw_protocol.specs.Players.{room_info_of}
use Rattle.mw_protocol.specs.Records.{Record}
use Rattle.mw_protocol.specs.Rooms.{Message, Session, Room, Event, opened, sent, failed, lost, is_full, text_of, untaken, overrun_by, with_message, with_member, told, session_in, member_in, effect_in, new_session, next}
use Rattle.mw_laws.specs.Applied.{Client, applied_packets, applied_messages, having, IsFrontOf, MaskStays, MaskSince, owed_of, owed_before, owed_since, IsHeard, has_items, ClientsApply}
use Rattle.mw_laws.specs.Kept.{is_call, journal_after, committed_after}
use Rattle.mw_laws.specs.Told.{staying, newcomers, session_then}
use Rattle.mw_laws.specs.Turns as turns
use Rattle.mw_laws.specs.Turns.{now, is_of, member_then, owed_by}
use Rattle.mw_laws.proofs.Applying.{Along, last_carried, last_at_most, along_last, along_take, along_front, along_push, along_weaker, applied_push, messages_forget}
use Rattle.mw_laws.proofs.Each.{Each, each_weaker, each_with, each_map, each_in, each_taken, found_by, none_some}
use Rattle.mw_laws.proofs.Effects.{MayBecome}
use Rattle.mw_laws.proofs.Following.{staying_each}
use Rattle.mw_laws.proofs.Journals.{next_journal, views_grow}
use Rattle.mw_laws.proofs.Keeping.{run_seed, first_stay}
use Rattle.mw_laws.proofs.Lists.{passed-append}
use Rattle.mw_laws.proofs.Masks.{seen, MaskIs, Has, has_seen, seen_grows, becomes, Received, receives}
use Rattle.mw_laws.proofs.Numbers.{IsNumbered, Ascend, below, found, after_numbered}
use Rattle.mw_laws.proofs.Owing.{found_session, run_numbered}
use Rattle.mw_laws.proofs.Pairs.{each_append}
use Rattle.mw_laws.proofs.Prefixes.{prefix_through}
use Rattle.mw_laws.proofs.Runs.{room_after_call, one_more, each_run}
use Rattle.mw_laws.proofs.Sessions.{told_number, told_member, new_number}
use Rattle.mw_laws.proofs.Taken.{taken_within}
use Rattle.mw_laws.proofs.Telling.{events_tell}

-- ---- one session

front_of_more : (xs ys : List NetItem) → IsPrefix xs ys → (c : Client) → IsFrontOf xs c → IsFrontOf ys c
front_of_more xs ys more c h = record { asks = h.asks; front = prefix_through c.list xs ys h.front more }

-- the client has a front of what was received through the mask by so many of the journal's first records
abbrev HasFront : Seed → ℕ → List Record → Option Member → ℕ → Client → Type 0
HasFront seed mask journal member n c = (n ≤ length journal) × IsFrontOf (seen seed mask (take n journal) member) c

-- all along what it was owed since a point, its client had a front by the length that the last message carries, and unless it is overrun now has just what was received through the mask
abbrev Since : Seed → ℕ → ℕ → List Record → Session → Type 0
Since seed mask from journal s =
    Along (HasFront seed mask journal s.member) 0 (having []) (drop from s.owed)
    × (IsFalse s.overrun → (from ≤ length s.owed) × Has seed mask journal s.member (applied_messages (having []) (drop from s.owed)).list)

-- more records leave it the front
front_still : (seed : Seed) (mask : ℕ) (journal more : List Record) (before then : Option Member) → MayBecome before then → (n : ℕ) (c : Client)
    → HasFront seed mask journal before n c → HasFront seed mask (journal ++ more) then n c
front_still seed mask journal more before then may n c h =
    let low : n ≤ length journal = h.0 in
    let first = take n journal in
    let same : first ++ [] ≡ take n (journal ++ more) = append-nil first ∙ sym (take-append-le n journal more low) in
    let grown : IsPrefix (seen seed mask first before) (seen seed mask (take n (journal ++ more)) then) =
    subst (λ j. IsPrefix (seen seed mask first before) (seen seed mask j then)) same (seen_grows seed mask first [] before then may) in
    (omega (arith, length-append journal more), front_of_more (seen seed mask first before) (seen seed mask (take n (journal ++ more)) then) grown c h.1)

-- told nothing, overrun before, overrun now, or told one message more
told_cases : (P : Session → Type 0) (packets : List ServerPacket) (length : ℕ) (s : Session) → (packets ≡ [] → P s) → (IsTrue s.overrun → P s) → P (overrun_by s)
    → (IsFalse s.overrun → P (with_message record { packets = packets; carries = length } s)) → P (told packets length s)
told_cases P [] length s none was over more = none refl
told_cases P (p ∷ ps) length s none was over more =
    let m : Message = record { packets = p ∷ ps; carries = length } in
    let full = is_full (map text_of (untaken s)) in
    cond_both s.overrun s (cond full (overrun_by s) (with_message m s)) P was (λ fine. cond_both full (overrun_by s) (with_message m s) P (λ _. over) (λ _. more fine))

module _ (seed : Seed) (mask from : ℕ) (room : Room) (same : room.seed ≡ seed) (event : Event) (s : Session) (has : member_in room.sessions s.number ≡ s.member)
    (h : Since seed mask from room.journal s) (masked : MaskIs mask (member_then room event s)) where
  then_since : Since seed mask from (next room event).journal (session_then room event s)
  then_since =
      let journal = (next room event).journal in
      let then = member_then room event s in
      let packets = owed_by room event s in
      let carries = length journal in
      let t = with_member then s in
      let client = applied_messages (having []) (drop from s.owed) in
      let message : Message = record { packets = packets; carries = carries } in
      let list = seen seed mask journal then in
      let Front : ℕ → Client → Type 0 = HasFront seed mask journal then in
      let still : (n : ℕ) (c : Client) → HasFront seed mask room.journal s.member n c → Front n c =
      λ n c was. subst (λ j. HasFront seed mask j then n c) (sym (next_journal room event)) (front_still seed mask room.journal (effect_in room event).records s.member then (becomes room event s has) n c was) in
      let along : Along Front 0 (having []) (drop from s.owed) = along_weaker (HasFront seed mask room.journal s.member) Front still 0 (having []) (drop from s.owed) h.0 in
      let asks : client.asks ≡ false = (along_last Front 0 (having []) (drop from s.owed) along).1.asks in
      let got : IsFalse s.overrun → Received client list (applied_packets client packets) = λ fine. receives seed mask room same event s has client then refl masked (h.1 fine).1 in
      told_cases (Since seed mask from journal) packets carries t
      (λ none. (along, λ fine. ((h.1 fine).0, has_seen seed mask journal then client.list masked (ap (λ ps. (applied_packets client ps).list) (sym none) ∙ (got fine).1))))
      (λ over. (along, λ fine. absurd (both_ways s.overrun fine over)))
      (along_front Front from s.taken 0 (having []) s.owed along, λ fine. absurd (true≢false fine))
      (λ fine.
      let low : from ≤ length s.owed = (h.1 fine).0 in
      let apart : drop from (s.owed ++ message ∷ []) ≡ drop from s.owed ++ message ∷ [] = drop-append-le from s.owed (message ∷ []) low in
      let pushed = applied_push (having []) (drop from s.owed) message in
      let now_list : (applied_messages (having []) (drop from s.owed ++ message ∷ [])).list ≡ list = ap (λ c. c.list) pushed ∙ (got fine).1 in
      let whole : list ≡ seen seed mask (take carries journal) then = ap (λ j. seen seed mask j then) (sym (take_all carries journal (le_refl carries))) in
      let now_front : Front carries (applied_messages (having []) (drop from s.owed ++ message ∷ [])) =
      (le_refl carries, record { asks = ap (λ c. c.asks) pushed ∙ (got fine).0 ∙ asks; front = ([], append-nil (applied_messages (having []) (drop from s.owed ++ message ∷ [])).list ∙ now_list ∙ whole) }) in (
        subst (Along Front 0 (having [])) (sym apart) (along_push Front 0 (having []) (drop from s.owed) message along now_front),
        λ _. (omega (arith, length-append s.owed (message ∷ [])), has_seen seed mask journal then (applied_messages (having []) (drop from (s.owed ++ message ∷ []))).list masked (ap (λ ms. (applied_messages (having []) ms).list) apart ∙ now_list)),
      ))

-- who is just opened has a client with no list
new_since : (seed : Seed) (mask : ℕ) (room : Room) (time : ℕ) → Since seed mask 0 room.journal (new_session room time)
new_since seed mask room time =
    let first : Session = record { number = room.opened + 1; member = None; owed = []; taken = 0; overrun = false } in
    let carries = length room.journal in
    let front : (n : ℕ) → n ≤ carries → HasFront seed mask room.journal None n (having []) = λ n low. (low, record { asks = refl; front = ([], refl) }) in
    let none = front 0 (omega arith) in
    told_cases (Since seed mask 0 room.journal) (room_info (room_info_of room.seed time) ∷ []) carries first
    (λ _. (none, λ _. (omega arith, refl))) (λ _. (none, λ _. (omega arith, refl))) (none, λ fine. absurd (true≢false fine)) (λ _. ((none, front carries (le_refl carries)), λ _. (omega arith, refl)))

-- ---- rooms

-- the number isn't that of a session to come, unless nothing was owed to it before
abbrev Was : ℕ → ℕ → Room → Type 0
Was number from room = (from ≡ 0) ⊎ (number ≤ room.opened)

abbrev IsSteady : Seed → ℕ → ℕ → ℕ → Room → Type 0
IsSteady seed number mask from room = Each (λ s. s.number ≡ number → Since seed mask from room.journal s) room.sessions

-- the session of the number has the mask, if it plays a slot
abbrev HasMask : ℕ → ℕ → Room → Type 0
HasMask number mask room = (m : Member) → member_in room.sessions number ≡ Some m → m.mask ≡ mask

masks_at : (number mask : ℕ) (room : Room) → IsNumbered room → HasMask number mask room → Each (λ s. s.number ≡ number → MaskIs mask s.member) room.sessions
masks_at number mask room numbered h =
    each_weaker (λ s. member_in room.sessions s.number ≡ s.member) (λ s. s.number ≡ number → MaskIs mask s.member)
    (λ s has is k plays. h k (ap (member_in room.sessions) (sym is) ∙ has ∙ plays)) room.sessions (found 0 room.opened room.sessions numbered)

module _ (seed : Seed) (number mask from : ℕ) (room : Room) (same : room.seed ≡ seed) (numbered : IsNumbered room) (was : Was number from room) where
  -- where its mask is this one, it stays so
  abbrev Then : List Record → Session → Type 0
  Then journal t = (t.number ≡ number → MaskIs mask t.member) → t.number ≡ number → Since seed mask from journal t

  staying_then : (event : Event) (s : Session) → member_in room.sessions s.number ≡ s.member → (s.number ≡ number → Since seed mask from room.journal s) → Then (next room event).journal (session_then room event s)
  staying_then event s has h masked is =
      let then = member_then room event s in
      let t = with_member then s in
      let packets = owed_by room event s in
      let carries = length (next room event).journal in
      let number_is : s.number ≡ number = sym (told_number packets carries t) ∙ is in
      then_since seed mask from room same event s has (h number_is) (λ k plays. masked is k (told_member packets carries t ∙ plays))

  newcomers_then : (event : Event) → Each (Then (next room event).journal) (newcomers room event)
  newcomers_then (opened time) = (λ masked is. by was is, tt)
    where
      by : Was number from room → (new_session room time).number ≡ number → Since seed mask from room.journal (new_session room time)
      by (inl none) is = subst (λ n. Since seed mask n room.journal (new_session room time)) (sym none) (new_since seed mask room time)
      by (inr low) is = let new = new_number room time in absurd (omega arith)
  newcomers_then (sent sender packet) = tt
  newcomers_then (failed sender bad) = tt
  newcomers_then (lost sender) = tt

  next_steady : (event : Event) → IsSteady seed number mask from room → HasMask number mask (next room event) → IsSteady seed number mask from (next room event)
  next_steady event h masked =
      let P = Then (next room event).journal in
      let Has_own : Session → Type 0 = λ s. member_in room.sessions s.number ≡ s.member in
      let Was_since : Session → Type 0 = λ s. s.number ≡ number → Since seed mask from room.journal s in
      let all : Each P (next room event).sessions =
      subst (Each P) (sym (events_tell room event))
      (each_append P (map (session_then room event) (staying room event)) (newcomers room event)
      (each_map P (session_then room event) (staying room event)
      (each_with Has_own Was_since (λ s. P (session_then room event s)) (staying_then event) (staying room event)
      (staying_each Has_own room event (found 0 room.opened room.sessions numbered)) (staying_each Was_since room event h)))
      (newcomers_then event)) in
      each_with (λ s. s.number ≡ number → MaskIs mask s.member) P (λ s. s.number ≡ number → Since seed mask from (next room event).journal s) (λ s has then. then has) (next room event).sessions
      (masks_at number mask (next room event) (after_numbered room (turns.happens event) numbered) masked) all

  call_steady : (call : Call) → IsSteady seed number mask from room → HasMask number mask (room_then room call) → IsSteady seed number mask from (room_then room call)
  call_steady (happens event) h masked = next_steady event h masked
  call_steady commits h masked = h
  call_steady (takes who) h masked = each_taken (λ s. s.number ≡ number → Since seed mask from room.journal s) who (λ s since. since) room.sessions h

-- ---- from a point of a run

number_at_most : (low high : ℕ) (ss : List Session) (number : ℕ) (s : Session) → Ascend low ss high → session_in ss number ≡ Some s → number ≤ high
number_at_most low high [] number s h e = absurd (none_some s e)
number_at_most low high (t ∷ ts) number s h e =
    elim (t.number == number) as (λ b. (t.number == number) ≡ b → cond b (Some t) (session_in ts number) ≡ Some s → number ≤ high) [
      | true ↦ λ is _. subst (λ n. n ≤ high) (eqb-true t.number number is) (below t.number high ts h.1)
      | false ↦ λ _ later. number_at_most t.number high ts number s h.1 later
    ] refl e

next_opened : (room : Room) (event : Event) → room.opened ≤ (next room event).opened
next_opened room (opened time) = omega arith
next_opened room (sent sender packet) = le_refl room.opened
next_opened room (failed sender bad) = le_refl room.opened
next_opened room (lost sender) = le_refl room.opened

call_opened : (room : Room) (call : Call) → room.opened ≤ (room_then room call).opened
call_opened room (happens event) = next_opened room event
call_opened room commits = le_refl room.opened
call_opened room (takes number) = le_refl room.opened

was_still : (number from : ℕ) (before later : Room) → before.opened ≤ later.opened → Was number from before → Was number from later
was_still number from before later le (inl none) = inl none
was_still number from before later le (inr low) = inr (omega arith)

all_front : {X : Type 0} (p : X → Bool) (xs ys : List X) → list_all p (xs ++ ys) ≡ true → (list_all p xs ≡ true) × (list_all p ys ≡ true)
all_front p [] ys h = (refl, h)
all_front p (x ∷ xs) ys h =
    let parts = and_parts (p x) (list_all p (xs ++ ys)) h in
    let rest = all_front p xs ys parts.1 in
    (and_from (p x) (list_all p xs) parts.0 rest.0, rest.1)

-- since then it had the mask
abbrev Masked : Seed → List Step → ℕ → ℕ → List Step → Type 0
Masked seed front number mask back =
    (first : List Step) (s : Step) (rest : List Step) (m : Member) → back ≡ first ++ s ∷ rest → member_in (life_after_all seed (front ++ first ++ s ∷ [])).room.sessions number ≡ Some m → m.mask ≡ mask

module _ (seed : Seed) (front : List Step) (number mask : ℕ) (other : (m : Member) → member_in (life_after_all seed front).room.sessions number ≡ Some m → m.mask ≡ mask → ⊥) where
  abbrev SteadyAt : List Step → Type 0
  SteadyAt steps = IsSteady seed number mask (owed_before seed front number) (life_after_all seed steps).room × Was number (owed_before seed front number) (life_after_all seed steps).room

  was_at : (o : Option Session) → session_in (life_after_all seed front).room.sessions number ≡ o → (length (owed_of o) ≡ 0) ⊎ (number ≤ (life_after_all seed front).room.opened)
  was_at None is = inl refl
  was_at (Some s) is = inr (number_at_most 0 (life_after_all seed front).room.opened (life_after_all seed front).room.sessions number s (run_numbered seed front) is)

  -- at that point nothing was owed since
  began : SteadyAt front
  began =
      let room = (life_after_all seed front).room in (
        each_weaker (λ s. session_in room.sessions s.number ≡ Some s) (λ s. s.number ≡ number → Since seed mask (owed_before seed front number) room.journal s) since room.sessions (found_session 0 room.opened room.sessions (run_numbered seed front)),
        was_at (session_in room.sessions number) refl,
      )
    where
      none_had : (journal : List Record) (member : Option Member) → ((k : Member) → member ≡ Some k → k.mask ≡ mask → ⊥) → Has seed mask journal member []
      none_had journal None apart = refl
      none_had journal (Some k) apart = (λ is. absurd (apart k refl is), λ _. refl)

      since : (s : Session) → session_in (life_after_all seed front).room.sessions s.number ≡ Some s → s.number ≡ number → Since seed mask (owed_before seed front number) (life_after_all seed front).room.journal s
      since s found is =
          let room = (life_after_all seed front).room in
          let here : session_in room.sessions number ≡ Some s = ap (session_in room.sessions) (sym is) ∙ found in
          let all : (owed_before seed front number) ≡ length s.owed = ap (λ o. length (owed_of o)) here in
          let none : drop (owed_before seed front number) s.owed ≡ [] = drop_all (owed_before seed front number) s.owed (omega arith) in
          let apart : (k : Member) → s.member ≡ Some k → k.mask ≡ mask → ⊥ = λ k plays. other k ((found_by room.sessions number s here).1 ∙ plays) in (
            subst (Along (HasFront seed mask room.journal s.member) 0 (having [])) (sym none) (omega arith, record { asks = refl; front = (seen seed mask [] s.member, refl) }),
            λ _. (omega arith, subst (λ ms. Has seed mask room.journal s.member (applied_messages (having []) ms).list) (sym none) (none_had room.journal s.member apart)),
          )

  steady_more : (back : List Step) (s : Step) → (list_all is_call back ≡ true → Masked seed front number mask back → SteadyAt (front ++ back)) → list_all is_call (back ++ s ∷ []) ≡ true → Masked seed front number mask (back ++ s ∷ []) → SteadyAt (front ++ (back ++ s ∷ []))
  steady_more back (crashes more place) h calls masked = absurd (true≢false (sym (all_front is_call back (crashes more place ∷ []) calls).1))
  steady_more back (acts call luck) h calls masked =
      let s = acts call luck in
      let life = life_after_all seed (front ++ back) in
      let next = one_more seed (front ++ back) s in
      let whole : life_after_all seed (front ++ (back ++ s ∷ [])) ≡ life_after life call luck = ap (life_after_all seed) (sym (append_assoc front back (s ∷ []))) ∙ next in
      let before = h (all_front is_call back (s ∷ []) calls).0 (λ first t rest m is. masked first t (rest ++ s ∷ []) m (ap (λ run. run ++ s ∷ []) is ∙ append_assoc first (t ∷ rest) (s ∷ []))) in
      let has : HasMask number mask (life_after life call luck).room = λ m is. masked back s [] m refl (ap (λ then. member_in then.room.sessions number) next ∙ is) in
      subst (λ then. IsSteady seed number mask (owed_before seed front number) then.room × Was number (owed_before seed front number) then.room) (sym whole)
      (room_after_call life call luck (λ room. HasMask number mask room → IsSteady seed number mask (owed_before seed front number) room × Was number (owed_before seed front number) room) (λ _. before)
      (λ _ then. (call_steady seed number mask (owed_before seed front number) life.room (run_seed seed (front ++ back)) (run_numbered seed (front ++ back)) before.1 call before.0 then, was_still number (owed_before seed front number) life.room (room_then life.room call) (call_opened life.room call) before.1))
      has)

  steady_since : (back : List Step) → list_all is_call back ≡ true → Masked seed front number mask back → SteadyAt (front ++ back)
  steady_since back = each_run (λ back. list_all is_call back ≡ true → Masked seed front number mask back → SteadyAt (front ++ back)) steady_more (λ _ _. subst SteadyAt (sym (append-nil front)) began) back

-- ---- the law

-- it has a front at each count of messages, by the journal of each later point of the life, and of later lives where it took them
module _ (seed : Seed) (steps more : List Step) (number : ℕ) (s : Session) (m : Member) (is : session_in (life_after_all seed steps).room.sessions number ≡ Some s) (plays : s.member ≡ Some m)
    (from : ℕ) (since : Since seed m.mask from (journal_after seed steps) s) where
  heard_stays : (count : ℕ) → IsHeard s (from + count) more → IsTrue (list_all is_call more) ⊎ (last_carried 0 (take count (drop from s.owed)) ≤ committed_after seed steps)
  heard_stays count (inl calls) = inl calls
  heard_stays count (inr taken) = inr (last_at_most (committed_after seed steps) 0 (take count (drop from s.owed)) (omega arith) (taken_within seed steps number s is from count taken))

  front_later : (count : ℕ) → IsHeard s (from + count) more → IsFrontOf (view seed m.mask m.team m.slot (journal_after seed (steps ++ more))) (applied_messages (having []) (take count (drop from s.owed)))
  front_later count heard =
      let journal = journal_after seed steps in
      let later = view seed m.mask m.team m.slot (journal_after seed (steps ++ more)) in
      let ms = take count (drop from s.owed) in
      let client = applied_messages (having []) ms in
      let first = take (last_carried 0 ms) journal in
      let P : ℕ → Client → Type 0 = HasFront seed m.mask journal s.member in
      let own : IsFrontOf (seen seed m.mask first s.member) client = (along_last P 0 (having []) ms (along_take P count 0 (having []) (drop from s.owed) since.0)).1 in
      let grown = first_stay seed steps more (last_carried 0 ms) (heard_stays count heard) in
      let longer : IsPrefix (view seed m.mask m.team m.slot first) later =
      subst (λ j. IsPrefix (view seed m.mask m.team m.slot first) (view seed m.mask m.team m.slot j)) grown.1 (views_grow.journals seed m.mask m.team m.slot first grown.0) in
      front_of_more (view seed m.mask m.team m.slot first) later longer client (subst (λ member. IsFrontOf (seen seed m.mask first member) client) plays own)

-- so it is from a point since which the mask stayed
since_point : (seed : Seed) (front back : List Step) (number : ℕ) (s : Session) (mask : ℕ) → session_in (life_after_all seed (front ++ back)).room.sessions number ≡ Some s → MaskSince seed front back number mask
    → Since seed mask (owed_before seed front number) (journal_after seed (front ++ back)) s
since_point seed front back number s mask is h =
    let room = (life_after_all seed (front ++ back)).room in
    let from = owed_before seed front number in
    each_in (λ t. t.number ≡ number → Since seed mask from room.journal t) room.sessions number s is (steady_since seed front number mask h.other back h.calls h.since).0 (found_by room.sessions number s is).0

-- the last life begins with nobody in its room
record Began (seed : Seed) (steps : List Step) : Type 0 where
  front : List Step
  back : List Step
  run : steps ≡ front ++ back
  calls : list_all is_call back ≡ true
  empty : (life_after_all seed front).room.sessions ≡ []

began_more : (seed : Seed) (steps : List Step) (s : Step) → Began seed steps → Began seed (steps ++ s ∷ [])
began_more seed steps (acts call luck) b = record {
  front = b.front;
  back = b.back ++ acts call luck ∷ [];
  run = ap (λ run. run ++ acts call luck ∷ []) b.run ∙ append_assoc b.front b.back (acts call luck ∷ []);
  calls = passed-append is_call b.back (acts call luck ∷ []) b.calls refl;
  empty = b.empty;
}
began_more seed steps (crashes more place) b = record {
  front = steps ++ crashes more place ∷ [];
  back = [];
  run = sym (append-nil (steps ++ crashes more place ∷ []));
  calls = refl;
  empty = ap (λ life. life.room.sessions) (one_more seed steps (crashes more place));
}

run_began : (seed : Seed) (steps : List Step) → Began seed steps
run_began seed steps = each_run (Began seed) (began_more seed) record { front = []; back = []; run = refl; calls = refl; empty = refl } steps

-- nobody had another mask before
mask_since : (seed : Seed) (steps : List Step) (number mask : ℕ) (b : Began seed steps) → MaskStays seed steps number mask → MaskSince seed b.front b.back number mask
mask_since seed steps number mask b stays = record {
  calls = b.calls;
  other = λ m is _. none_some m (ap (λ ss. member_in ss number) (sym b.empty) ∙ is);
  since = λ first s rest m is. stays (b.front ++ first ++ s ∷ []) rest m
      (b.run ∙ ap (λ back. b.front ++ back) is ∙ sym (append_assoc b.front first (s ∷ rest)) ∙ sym (append_assoc (b.front ++ first) (s ∷ []) rest))
      (all_front is_call (first ++ s ∷ []) rest (ap (list_all is_call) (append_assoc first (s ∷ []) rest ∙ sym is) ∙ b.calls)).1;
}

-- since its life began, where the mask stayed
stays_since : (seed : Seed) (steps : List Step) (number : ℕ) (s : Session) (mask : ℕ) → session_in (life_after_all seed steps).room.sessions number ≡ Some s → MaskStays seed steps number mask → Since seed mask 0 (journal_after seed steps) s
stays_since seed steps number s mask is stays =
    let b = run_began seed steps in
    let here : session_in (life_after_all seed (b.front ++ b.back)).room.sessions number ≡ Some s = ap (λ run. session_in (life_after_all seed run).room.sessions number) (sym b.run) ∙ is in
    let since = since_point seed b.front b.back number s mask here (mask_since seed steps number mask b stays) in
    let none : owed_before seed b.front number ≡ 0 = ap (λ ss. length (owed_of (session_in ss number))) b.empty in
    subst (λ from. Since seed mask from (journal_after seed steps) s) none (subst (λ run. Since seed mask (owed_before seed b.front number) (journal_after seed run) s) (sym b.run) since)

connected_apply : (seed : Seed) (steps : List Step) (number : ℕ) (s : Session) (m : Member) → session_in (life_after_all seed steps).room.sessions number ≡ Some s → s.member ≡ Some m → MaskStays seed steps number m.mask
    → (count : ℕ) (more : List Step) → IsHeard s count more → IsFrontOf (view seed m.mask m.team m.slot (journal_after seed (steps ++ more))) (applied_messages (having []) (take count s.owed))
connected_apply seed steps number s m is plays stays count more heard =
    let all : 0 + count ≡ count = omega arith in
    front_later seed steps more number s m is plays 0 (stays_since seed steps number s m.mask is stays) count (subst (λ n. IsHeard s n more) (sym all) heard)

heard_apply : (seed : Seed) (steps : List Step) (number : ℕ) (s : Session) (m : Member) → session_in (life_after_all seed steps).room.sessions number ≡ Some s → s.member ≡ Some m → MaskStays seed steps number m.mask → IsFalse s.overrun
    → (applied_messages (having []) s.owed).list ≡ view seed m.mask m.team m.slot (journal_after seed steps)
heard_apply seed steps number s m is plays stays fine =
    let journal = journal_after seed steps in
    let list = (applied_messages (having []) s.owed).list in
    let has : Has seed m.mask journal (Some m) list = subst (λ member. Has seed m.mask journal member list) plays ((stays_since seed steps number s m.mask is stays).1 fine).1 in
    has.0 refl

changed_apply : (seed : Seed) (front back : List Step) (number : ℕ) (s : Session) (m : Member) → session_in (life_after_all seed (front ++ back)).room.sessions number ≡ Some s → s.member ≡ Some m → MaskSince seed front back number m.mask
    → (list : List NetItem) (count : ℕ) (more : List Step) → IsHeard s (owed_before seed front number + count) more → IsTrue (has_items (take count (owed_since seed front number s)))
    → IsFrontOf (view seed m.mask m.team m.slot (journal_after seed ((front ++ back) ++ more))) (applied_messages (having list) (take count (owed_since seed front number s)))
changed_apply seed front back number s m is plays masked list count more heard has =
    let ms = take count (owed_since seed front number s) in
    let whole = view seed m.mask m.team m.slot (journal_after seed ((front ++ back) ++ more)) in
    let own : IsFrontOf whole (applied_messages (having []) ms) =
    front_later seed (front ++ back) more number s m is plays (owed_before seed front number) (since_point seed front back number s m.mask is masked) count heard in
    subst (IsFrontOf whole) (sym (messages_forget list ms has own.asks)) own

pub clients_apply : ClientsApply
clients_apply = record { connected = connected_apply; heard = heard_apply; changed = changed_apply }
