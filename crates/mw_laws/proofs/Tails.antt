-- The ReceivedItems of each message that is taken hold tails of views, in later lives too.
use mathlib.Core.List.{IsPrefix}
use Rattle.std.proofs.Common.{◌≡◌, ◌⊎◌, inl, inr, ℕ, ◌≤◌, zero, suc, ◌&&◌, List, Bool, true, false, cond, ◌∷◌, [], ◌++◌, Option, Some, None, IsTrue, All, Contains, length, take, drop, filter, refl, sym, ap, subst, ◌∙◌, append_assoc, true≢false}
use Rattle.std.proofs.Math.Seq.{take-append_seam}
use Rattle.std.proofs.lemmas.List.Elements.{All-contains}
use Rattle.std.specs.List.{list_all}
use Rattle.mw_model.specs.Items.{NetItem}
use Rattle.mw_model.specs.Seed.{Seed}
use Rattle.mw_protocol.specs.Asked.{view}
use Rattle.mw_protocol.specs.Connecting.{Member}
use Rattle.mw_protocol.specs.Lives.{happens, takes, Luck, Step, acts, life_after_all, untaken_in}
use Rattle.mw_protocol.specs.Messages.{ServerPacket, received_items}
use Rattle.mw_protocol.specs.Owed.{items_from, owed, view_of}
use Rattle.mw_protocol.specs.Rooms.{Message, Session, Room, Event, opened, sent, failed, lost, effect_in, next}
use Rattle.mw_protocol.specs.Standing.{standing}
use Rattle.mw_laws.specs.Kept.{Passes, is_call, journal_after, committed_after}
use Rattle.mw_laws.specs.Tails.{Passed, Greets, Tells, Owes, WasOwed, taking, IsTail, AreTails, TailsOfTheLastView}
use Rattle.mw_laws.specs.Turns.{now, is_of, member_then, owed_by}
use Rattle.mw_laws.specs.Views.{is_received_items, view_then, view_before}
use Rattle.mw_laws.proofs.Answered.{view_is}
use Rattle.mw_laws.proofs.Each.{Each, each_with}
use Rattle.mw_laws.proofs.Effects.{event_answers}
use Rattle.mw_laws.proofs.Following.{none_told}
use Rattle.mw_laws.proofs.Journals.{next_seed, views_grow}
use Rattle.mw_laws.proofs.Keeping.{run_seed}
use Rattle.mw_laws.proofs.Owing.{steps_then, passed_still, just_passed, taken_owed, steps_to, point_journal, point_stays, point_carries, taken_committed}
use Rattle.mw_laws.proofs.Pairs.{each_at}
use Rattle.mw_laws.proofs.Viewing.{items_are, items_at}

-- the tail of a list stands at its index in each longer list
tail_stays : {A : Type 0} (index : ℕ) (xs more : List A) → drop index xs ≡ take (length (drop index xs)) (drop index (xs ++ more))
tail_stays zero xs more = sym (take-append_seam xs more)
tail_stays (suc i) [] more = refl
tail_stays (suc i) (x ∷ xs) more = tail_stays i xs more

-- what holds of the elements that a test keeps, and of those that fail it, holds of all
each_filtered : {X : Type 0} (P : X → Type 0) (p : X → Bool) → ((x : X) → p x ≡ false → P x) → (xs : List X) → Each P (filter p xs) → Each P xs
each_filtered P p others [] h = tt
each_filtered P p others (x ∷ xs) h =
    elim (p x) as (λ b. p x ≡ b → Each P (cond b (x ∷ filter p xs) (filter p xs)) → Each P (x ∷ xs)) [
      | true ↦ λ _ k. (k.0, each_filtered P p others xs k.1)
      | false ↦ λ fails k. (others x fails, each_filtered P p others xs k)
    ] refl h

-- ---- one event

-- if the packet is a ReceivedItems, its items are the list's tail from its index on
abbrev TellsTail : List NetItem → ServerPacket → Type 0
TellsTail list packet = (index : ℕ) (items : List NetItem) → packet ≡ received_items index items → items ≡ drop index list

other_tells : (list : List NetItem) (packet : ServerPacket) → is_received_items packet ≡ false → TellsTail list packet
other_tells list packet other index items is = absurd (true≢false (ap is_received_items (sym is) ∙ other))

tail_tells : (list : List NetItem) (from : ℕ) (items : List NetItem) → items ≡ drop from list → Each (TellsTail list) (items_from from items)
tail_tells list from [] h = tt
tail_tells list from (i ∷ is) h = (same, tt)
  where
    same : (index : ℕ) (items : List NetItem) → received_items from (i ∷ is) ≡ received_items index items → items ≡ drop index list
    same index items e = cc

view_tells : (whole : Bool) (room : Room) (event : Event) (m : Member) → Each (TellsTail (view_then room event m)) (items_at whole room event m)
view_tells true room event m = tail_tells (view_then room event m) 0 (view_then room event m) refl
view_tells false room event m = tail_tells (view_then room event m) (length (view_before room m)) (drop (length (view_before room m)) (view_then room event m)) refl

-- whatever is owed to who is a member after an event
member_tells : (room : Room) (event : Event) (s : Session) (m : Member) → member_then room event s ≡ Some m → Each (TellsTail (view_then room event m)) (owed_by room event s)
member_tells room event s m is =
    each_filtered (TellsTail (view_then room event m)) is_received_items (other_tells (view_then room event m)) (owed_by room event s)
    (subst (Each (TellsTail (view_then room event m))) (sym (items_are room event s m is)) (view_tells ((effect_in room event).whole && is_of event s.number) room event m))

-- who plays no slot is told of no items
pub stranger_tells : (room : Room) (event : Event) (s : Session) → member_then room event s ≡ None → filter is_received_items (owed_by room event s) ≡ []
stranger_tells room event s is =
    ap (λ member. filter is_received_items (owed room.seed (now room) (now (next room event)) (effect_in room event) (is_of event s.number) member)) is
    ∙ none_told room.seed (now room) (now (next room event)) (effect_in room event) (is_of event s.number) (event_answers room event)

-- no ReceivedItems is among packets of which the test leaves none
none_among : (packets : List ServerPacket) (index : ℕ) (items : List NetItem) → filter is_received_items packets ≡ [] → Contains packets (received_items index items) → ⊥
none_among packets index items none has =
    let P : ServerPacket → Type 0 = λ p. is_received_items p ≡ false in
    let each : Each P packets = each_filtered P is_received_items (λ p other. other) packets (subst (Each P) (sym none) tt) in
    true≢false (All-contains P packets (received_items index items) (each_at P packets each) has)

-- ---- a message

module _ (seed : Seed) (steps : List Step) (p : Passed seed steps) (m : Member) where
  -- what the member's slot received after an event that passed, by the event's room and by the run
  event_view : view_then (life_after_all seed p.before).room p.event m ≡ view seed m.mask m.team m.slot (journal_after seed (steps_to seed steps p))
  event_view =
      let room = (life_after_all seed p.before).room in
      let journal = (next room p.event).journal in
      let same : room.seed ≡ seed = run_seed seed p.before in
      ap (λ e. view_of e (standing (next room p.event).seed journal) m) same ∙ ap (λ e. view_of seed (standing e journal) m) (next_seed room p.event ∙ same)
      ∙ view_is seed journal m ∙ ap (view seed m.mask m.team m.slot) (sym (point_journal seed steps p))

  -- it is the front of what it has received at each later point of the life, and of later lives where the journal was committed
  module _ (more : List Step) (kept : IsTrue (list_all is_call more) ⊎ (length (journal_after seed (steps_to seed steps p)) ≤ committed_after seed steps)) where
    later_view : IsPrefix (view seed m.mask m.team m.slot (journal_after seed (steps_to seed steps p))) (view seed m.mask m.team m.slot (journal_after seed (steps ++ more)))
    later_view =
        let before = journal_after seed (steps_to seed steps p) in
        let grown = point_stays seed steps p more kept in
        subst (λ journal. IsPrefix (view seed m.mask m.team m.slot before) (view seed m.mask m.team m.slot journal)) grown.1 (views_grow.journals seed m.mask m.team m.slot before grown.0)

    stands_later : (index : ℕ) (items : List NetItem) → items ≡ drop index (view seed m.mask m.team m.slot (journal_after seed (steps_to seed steps p)))
        → items ≡ take (length items) (drop index (view seed m.mask m.team m.slot (journal_after seed (steps ++ more))))
    stands_later index items own =
        let before = view seed m.mask m.team m.slot (journal_after seed (steps_to seed steps p)) in
        own ∙ tail_stays index before later_view.0 ∙ ap (λ list. take (length (drop index before)) (drop index list)) later_view.1
        ∙ ap (λ list. take (length list) (drop index (view seed m.mask m.team m.slot (journal_after seed (steps ++ more))))) (sym own)

-- the items of what an event that passed owes are a tail of the view after it
tail_at : (seed : Seed) (steps : List Step) (p : Passed seed steps) (s : Session) (m : Member) → member_then (life_after_all seed p.before).room p.event s ≡ Some m
    → (index : ℕ) (items : List NetItem) → Contains (owed_by (life_after_all seed p.before).room p.event s) (received_items index items)
    → items ≡ drop index (view seed m.mask m.team m.slot (journal_after seed (steps_to seed steps p)))
tail_at seed steps p s m is index items has =
    let room = (life_after_all seed p.before).room in
    let list = view_then room p.event m in
    All-contains (TellsTail list) (owed_by room p.event s) (received_items index items) (each_at (TellsTail list) (owed_by room p.event s) (member_tells room p.event s m is)) has index items refl
    ∙ ap (drop index) (event_view seed steps p m)

greeting_none : (room : Room) (event : Event) (number : ℕ) (message : Message) → Greets room event number message → filter is_received_items message.packets ≡ []
greeting_none room (opened time) number message greets = ap (λ m. filter is_received_items m.packets) greets.1
greeting_none room (sent sender packet) number message greets = absurd greets
greeting_none room (failed sender bad) number message greets = absurd greets
greeting_none room (lost sender) number message greets = absurd greets

-- ---- what a session takes

module _ (seed : Seed) (steps : List Step) (number : ℕ) (luck : Luck) where
  abbrev then : List Step
  then = steps ++ taking number luck ∷ []

  -- once a message is taken, the journal after the event that owed it is committed, so its items stand at their index in later lives too
  taken_stands : (message : Message) (p : Passed seed steps) → Owes (life_after_all seed p.before).room p.event number message → message.carries ≤ committed_after seed then
      → (m : Member) (index : ℕ) (items : List NetItem) → items ≡ drop index (view seed m.mask m.team m.slot (journal_after seed (steps_to seed steps p)))
      → (more : List Step) → items ≡ take (length items) (drop index (view seed m.mask m.team m.slot (journal_after seed (steps ++ taking number luck ∷ more))))
  taken_stands message p owes committed m index items own more =
      let still = passed_still seed steps (takes number) luck p in
      subst (λ run. items ≡ take (length items) (drop index (view seed m.mask m.team m.slot (journal_after seed run)))) (append_assoc steps (taking number luck ∷ []) more)
      (stands_later seed then still m more (inr (subst (λ n. n ≤ committed_after seed then) (point_carries seed steps p number message owes) committed)) index items own)

  told_tail : (message : Message) → message.carries ≤ committed_after seed then → (p : Passed seed steps) (t : Tells (life_after_all seed p.before).room p.event number message)
      → (o : Option Member) → member_then (life_after_all seed p.before).room p.event t.session ≡ o
      → (index : ℕ) (items : List NetItem) → Contains (owed_by (life_after_all seed p.before).room p.event t.session) (received_items index items) → IsTail seed steps number luck message index items
  told_tail message committed p t None is index items has =
      let room = (life_after_all seed p.before).room in
      absurd (none_among (owed_by room p.event t.session) index items (stranger_tells room p.event t.session is) has)
  told_tail message committed p t (Some m) is index items has =
      let own = tail_at seed steps p t.session m is index items has in
      record { point = p; told = t; member = m; plays = is; own = own; last = taken_stands message p (inr t) committed m index items own }

  owed_tails : (message : Message) → WasOwed seed steps number message → message.carries ≤ committed_after seed then → AreTails seed steps number luck message
  owed_tails message (p, inl greets) committed index items has =
      absurd (none_among message.packets index items (greeting_none (life_after_all seed p.before).room p.event number message greets) has)
  owed_tails message (p, inr t) committed index items has =
      let room = (life_after_all seed p.before).room in
      told_tail message committed p t (member_then room p.event t.session) refl index items (subst (λ m. Contains m.packets (received_items index items)) t.is has)

  taken_tails : Passes (life_after_all seed steps) (takes number) luck → All (AreTails seed steps number luck) (untaken_in (life_after_all seed steps) number)
  taken_tails passes =
      let P = AreTails seed steps number luck in
      let ms = untaken_in (life_after_all seed steps) number in
      each_at P ms (each_with (WasOwed seed steps number) (λ m. m.carries ≤ committed_after seed then) P owed_tails ms (taken_owed seed steps number) (taken_committed seed steps number luck passes))

event_tails : (seed : Seed) (before more : List Step) (event : Event) (luck : Luck) (s : Session) (m : Member) (index : ℕ) (items : List NetItem)
    → Passes (life_after_all seed before) (happens event) luck → member_then (life_after_all seed before).room event s ≡ Some m
    → Contains (owed_by (life_after_all seed before).room event s) (received_items index items) → IsTrue (list_all is_call more)
    → items ≡ take (length items) (drop index (view seed m.mask m.team m.slot (journal_after seed (before ++ acts (happens event) luck ∷ more))))
event_tails seed before more event luck s m index items passes is has calls =
    let steps = steps_then seed before (happens event) luck in
    let p = just_passed seed before event luck passes in
    subst (λ run. items ≡ take (length items) (drop index (view seed m.mask m.team m.slot (journal_after seed run)))) (append_assoc before (acts (happens event) luck ∷ []) more)
    (stands_later seed steps p m more (inl calls) index items (tail_at seed steps p s m is index items has))

pub tails_of_the_last_view : TailsOfTheLastView
tails_of_the_last_view = record {
  owed = λ seed before more event luck number s m index items passes found is has calls. event_tails seed before more event luck s m index items passes is has calls;
  taken = taken_tails;
}
