-- While the mask of a session stays, its client has its view.
use mathlib.Core.List.{IsPrefix}
use Rattle.std.proofs.Common.{◌≡◌, ℕ, ◌==◌, List, Bool, true, false, cond, ◌∷◌, [], ◌++◌, Option, Some, None, IsSomeAnd, length, drop, refl, sym, ap, subst, ◌∙◌, append-nil, arith, true≢false, eq-eqb, ne_eqb, eqb-true}
use Rattle.std.proofs.lemmas.Bool.{cond-true, cond-false}
use Rattle.mw_model.specs.Items.{NetItem}
use Rattle.mw_model.specs.Seed.{Seed}
use Rattle.mw_protocol.specs.Asked.{view}
use Rattle.mw_protocol.specs.Connecting.{Member}
use Rattle.mw_protocol.specs.Owed.{items_from, view_of}
use Rattle.mw_protocol.specs.Records.{Record}
use Rattle.mw_protocol.specs.Rooms.{Session, Room, Event, opened, sent, failed, lost, or_else, member_in, members_in, effect_in, next}
use Rattle.mw_protocol.specs.Standing.{standing}
use Rattle.mw_laws.specs.Applied.{Client, applied_packets}
use Rattle.mw_laws.specs.Turns.{now, is_of, member_then, owed_by}
use Rattle.mw_laws.specs.Views.{asks_by, view_then, view_before}
use Rattle.mw_laws.proofs.Answered.{view_is}
use Rattle.mw_laws.proofs.Applying.{applied_filter}
use Rattle.mw_laws.proofs.Effects.{MayBecome, same_still, packet_facts, parting_plain}
use Rattle.mw_laws.proofs.Following.{SeesAs, event_sees}
use Rattle.mw_laws.proofs.Journals.{next_journal, next_seed, views_grow}
use Rattle.mw_laws.proofs.Prefixes.{prefix_through}
use Rattle.mw_laws.proofs.Sessions.{none_before}
use Rattle.mw_laws.proofs.Tails.{stranger_tells}
use Rattle.mw_laws.proofs.Viewing.{items_are, items_at, asked_whole, grown_is}

-- ---- what a slot received through a mask

-- nothing, for who plays none
abbrev pub seen : Seed → ℕ → List Record → Option Member → List NetItem
seen seed mask journal None = []
seen seed mask journal (Some k) = view seed mask k.team k.slot journal

abbrev pub MaskIs : ℕ → Option Member → Type 0
MaskIs mask member = (k : Member) → member ≡ Some k → k.mask ≡ mask

-- the list is what was received through the mask, if it is the member's, and else empty
abbrev pub Has : Seed → ℕ → List Record → Option Member → List NetItem → Type 0
Has seed mask journal None list = list ≡ []
Has seed mask journal (Some k) list = (k.mask ≡ mask → list ≡ view seed mask k.team k.slot journal) × ((k.mask ≡ mask → ⊥) → list ≡ [])

pub has_seen : (seed : Seed) (mask : ℕ) (journal : List Record) (member : Option Member) (list : List NetItem) → MaskIs mask member → list ≡ seen seed mask journal member → Has seed mask journal member list
has_seen seed mask journal None list masked same = same
has_seen seed mask journal (Some k) list masked same = (λ _. same, λ other. absurd (other (masked k refl)))

pub front_seen : (seed : Seed) (mask : ℕ) (journal : List Record) (member : Option Member) (list : List NetItem) → Has seed mask journal member list → IsPrefix list (seen seed mask journal member)
front_seen seed mask journal None list h = ([], append-nil list ∙ h)
front_seen seed mask journal (Some k) list h =
    let all = view seed mask k.team k.slot journal in
    elim (k.mask == mask) as (λ b. k.mask == mask ≡ b → IsPrefix list all) [
      | true ↦ λ is. ([], append-nil list ∙ h.0 (eqb-true k.mask mask is))
      | false ↦ λ other. (all, ap (λ front. front ++ all) (h.1 (λ is. true≢false (sym (eq-eqb k.mask mask is) ∙ other))))
    ] refl

pub seen_grows : (seed : Seed) (mask : ℕ) (journal more : List Record) (before then : Option Member) → MayBecome before then → IsPrefix (seen seed mask journal before) (seen seed mask (journal ++ more) then)
seen_grows seed mask journal more None then h = (seen seed mask (journal ++ more) then, refl)
seen_grows seed mask journal more (Some k) None h = absurd h
seen_grows seed mask journal more (Some k) (Some n) h =
    subst (λ team. IsPrefix (view seed mask k.team k.slot journal) (view seed mask team n.slot (journal ++ more))) (sym h.0)
    (subst (λ slot. IsPrefix (view seed mask k.team k.slot journal) (view seed mask k.team slot (journal ++ more))) (sym h.1) (views_grow.journals seed mask k.team k.slot journal more))

-- ---- a client and items

-- the whole list from 0, of which it has a front
whole_applied : (c : Client) (list : List NetItem) → IsPrefix c.list list → ((applied_packets c (items_from 0 list)).asks ≡ c.asks) × ((applied_packets c (items_from 0 list)).list ≡ list)
whole_applied c [] h = (refl, empty c.list h.0 h.1)
  where
    empty : (xs ys : List NetItem) → xs ++ ys ≡ [] → xs ≡ []
    empty [] ys e = refl
    empty (x ∷ xs) ys e = cc
whole_applied c (i ∷ is) h = (refl, refl)

-- more from where its list ends
tail_applied : (c : Client) (before more : List NetItem) → c.list ≡ before
    → ((applied_packets c (items_from (length before) more)).asks ≡ c.asks) × ((applied_packets c (items_from (length before) more)).list ≡ before ++ more)
tail_applied c before [] same = (refl, same ∙ sym (append-nil before))
tail_applied c [] (i ∷ is) same = (refl, refl)
tail_applied c (b ∷ bs) (i ∷ is) same =
    let place = length (b ∷ bs) in
    let next : Client = record { list = c.list ++ i ∷ is; asks = c.asks } in
    let asking : Client = record { list = c.list; asks = true } in
    let is_next : applied_packets c (items_from place (i ∷ is)) ≡ next =
    cond-false (place == 0) record { list = i ∷ is; asks = c.asks } (cond (place == length c.list) next asking) (ne_eqb place 0 (λ none. absurd (omega arith)))
    ∙ cond-true (place == length c.list) next asking (eq-eqb place (length c.list) (ap length (sym same))) in
    (ap (λ d. d.asks) is_next, ap (λ d. d.list) is_next ∙ ap (λ front. front ++ i ∷ is) same)

-- ---- a client and what one event owes

module _ (seed : Seed) (mask : ℕ) (room : Room) (same : room.seed ≡ seed) (event : Event) where
  abbrev pub journal_then : List Record
  journal_then = (next room event).journal

  then_is : (m : Member) → m.mask ≡ mask → view_then room event m ≡ seen seed mask journal_then (Some m)
  then_is m masked =
      ap (λ e. view_of e (standing (next room event).seed journal_then) m) same ∙ ap (λ e. view_of seed (standing e journal_then) m) (next_seed room event ∙ same)
      ∙ view_is seed journal_then m ∙ ap (λ k. view seed k m.team m.slot journal_then) masked

  before_is : (m : Member) → m.mask ≡ mask → view_before room m ≡ seen seed mask room.journal (Some m)
  before_is m masked = ap (λ e. view_of e (standing e room.journal) m) same ∙ view_is seed room.journal m ∙ ap (λ k. view seed k m.team m.slot room.journal) masked

  -- what a slot received through the mask grows
  seen_then : (before then : Option Member) → MayBecome before then → IsPrefix (seen seed mask room.journal before) (seen seed mask journal_then then)
  seen_then before then h =
      subst (λ journal. IsPrefix (seen seed mask room.journal before) (seen seed mask journal then)) (sym (next_journal room event)) (seen_grows seed mask room.journal (effect_in room event).records before then h)

-- who plays a slot plays it after an event
pub becomes : (room : Room) (event : Event) (s : Session) → member_in room.sessions s.number ≡ s.member → MayBecome s.member (member_then room event s)
becomes room (opened time) s has = same_still s.member
becomes room (failed sender bad) s has = elim (s.number == sender) as (λ b. MayBecome s.member (cond b (or_else None s.member) s.member)) [ true ↦ same_still s.member | false ↦ same_still s.member ]
becomes room (lost sender) s has =
    elim (s.number == sender) as (λ b. MayBecome s.member (cond b (or_else (effect_in room (lost sender)).member s.member) s.member)) [
      | true ↦ subst (λ made. MayBecome s.member (or_else made s.member)) (sym (parting_plain room.seed (member_in room.sessions sender)).2) (same_still s.member)
      | false ↦ same_still s.member
    ]
becomes room (sent sender packet) s has =
    let made = (effect_in room (sent sender packet)).member in
    elim (s.number == sender) as (λ b. (s.number == sender) ≡ b → MayBecome s.member (cond b (or_else made s.member) s.member)) [
      | true ↦ λ sends.
          subst (λ member. MayBecome member (or_else made member)) (ap (member_in room.sessions) (sym (eqb-true s.number sender sends)) ∙ has)
          (packet_facts room.seed (now room) (members_in room.sessions) (member_in room.sessions sender) packet).2
      | false ↦ λ _. same_still s.member
    ] refl

-- the client asks for nothing more, and then has what was received through the mask
abbrev pub Received : Client → List NetItem → Client → Type 0
Received before list c = (c.asks ≡ before.asks) × (c.list ≡ list)

module _ (seed : Seed) (mask : ℕ) (room : Room) (same : room.seed ≡ seed) (event : Event) (s : Session) (has : member_in room.sessions s.number ≡ s.member) (c : Client) where
  -- who saw the same before had the view before
  had_before : (m : Member) → m.mask ≡ mask → (member : Option Member) → IsSomeAnd member (SeesAs m) → Has seed mask room.journal member c.list → c.list ≡ view_before room m
  had_before m masked None sees h = absurd sees
  had_before m masked (Some k) sees h =
      h.0 (sees.0 ∙ masked) ∙ ap (λ team. view seed mask team k.slot room.journal) sees.1 ∙ ap (λ slot. view seed mask m.team slot room.journal) sees.2
      ∙ sym (before_is seed mask room same event m masked)

  receives_items : (m : Member) → m.mask ≡ mask → member_then room event s ≡ Some m → Has seed mask room.journal s.member c.list
      → (asks : Bool) → asks_by room event s ≡ asks → Received c (view_then room event m) (applied_packets c (items_at asks room event m))
  receives_items m masked is h true asks =
      let grown = seen_then seed mask room same event s.member (member_then room event s) (becomes room event s has) in
      let whole : IsPrefix (seen seed mask room.journal s.member) (view_then room event m) =
      subst (IsPrefix (seen seed mask room.journal s.member)) (ap (seen seed mask (next room event).journal) is ∙ sym (then_is seed mask room same event m masked)) grown in
      whole_applied c (view_then room event m) (prefix_through c.list (seen seed mask room.journal s.member) (view_then room event m) (front_seen seed mask room.journal s.member c.list h) whole)
  receives_items m masked is h false asks =
      let before = view_before room m in
      let tail = tail_applied c before (drop (length before) (view_then room event m)) (had_before m masked s.member (event_sees room event s m has asks is) h) in
      (tail.0, tail.1 ∙ grown_is room event m)

  pub receives : (then : Option Member) → member_then room event s ≡ then → MaskIs mask then → Has seed mask room.journal s.member c.list
      → Received c (seen seed mask (next room event).journal then) (applied_packets c (owed_by room event s))
  receives None is masked h =
      let none : applied_packets c (owed_by room event s) ≡ c = applied_filter c (owed_by room event s) ∙ ap (applied_packets c) (stranger_tells room event s is) in
      let before : s.member ≡ None = none_before (effect_in room event) (is_of event s.number) s.member is in
      (ap (λ d. d.asks) none, ap (λ d. d.list) none ∙ subst (λ member. Has seed mask room.journal member c.list) before h)
  receives (Some m) is masked h =
      let asks = asks_by room event s in
      let items : applied_packets c (owed_by room event s) ≡ applied_packets c (items_at asks room event m) =
      applied_filter c (owed_by room event s) ∙ ap (applied_packets c) (items_are room event s m is ∙ ap (λ w. items_at w room event m) (asked_whole room event s has)) in
      let then = receives_items m (masked m refl) is h asks refl in
      (ap (λ d. d.asks) items ∙ then.0, ap (λ d. d.list) items ∙ then.1 ∙ then_is seed mask room same event m (masked m refl))
