-- No slot pays more than its checks are worth.
use Rattle.std.proofs.Common.{◌≡◌, ℕ, suc, ℤ, ◌+◌, ◌-◌, ◌*◌, ◌≤◌, ◌==◌, ◌&&◌, List, Bool, true, false, cond, ◌∷◌, [], ◌++◌, Result, Ok, Err, is_some, max, length, refl, sym, ap, subst, subst₂, ◌∙◌, arith, le_trans, le_refl, mul-le-mul_left, length-append, eqb-true}
use Rattle.std.proofs.lemmas.Bool.{and_parts, and_left, cond_both, cond-false, not-true}
use Rattle.std.proofs.lemmas.List.Elements.{filter-append}
use Rattle.std.specs.List.{list_all}
use Rattle.mw_model.specs.Json.{Json}
use Rattle.mw_model.specs.Seed.{Seed, Held}
use Rattle.mw_model.specs.Sets.{SetPacket}
use Rattle.mw_protocol.specs.Asked.{asked_by}
use Rattle.mw_protocol.specs.Checks.{unseen, locations_in}
use Rattle.mw_protocol.specs.Connecting.{Member}
use Rattle.mw_protocol.specs.HintList.{is_at, hint_at, with_status, marked, made, hinted, bought_by}
use Rattle.mw_protocol.specs.Hints.{bought_hint}
use Rattle.mw_protocol.specs.Records.{Record, Hint, checks, release, collect, status, hint, hint_status, store}
use Rattle.mw_protocol.specs.Rooms.{Room, Event, opened, sent, failed, lost, effect_in, member_in, members_in, next, empty_room}
use Rattle.mw_protocol.specs.Standing.{Standing, step, steps, standing, checked_of, cost, points}
use Rattle.mw_protocol.specs.Storage.{Refused, Changed, value_of, set_case}
use Rattle.mw_protocol.specs.Storing.{is_kept, storing}
use Rattle.mw_laws.specs.Hinted.{worth, spent, SlotsNeverOwe}
use Rattle.mw_laws.specs.Turns.{Turn, happens, takes, after, after_all, room_after, now}
use Rattle.mw_laws.proofs.Journal.{standing-append, locations_in-append}
use Rattle.mw_laws.proofs.Journals.{all_seed, next_journal, next_seed}
use Rattle.mw_laws.proofs.Recording.{is_free, packet_records, parting_records}

abbrev Covered : Seed → Standing → ℕ → ℕ → Type 0
Covered seed s team slot = spent seed s team slot ≤ worth seed s team slot

-- ---- a record

-- checks only add to what a slot's locations are worth
worth_grows : (seed : Seed) (s : Standing) (r : Record) (team slot : ℕ) → worth seed s team slot ≤ worth seed (step seed s r) team slot
worth_grows seed s r team slot =
    let more = unseen s.checked (asked_by seed r) in
    let grown : length (checked_of (step seed s r) team slot) ≡ length (checked_of s team slot) + length (locations_in team slot more) =
    ap length (locations_in-append team slot s.checked more) ∙ length-append (locations_in team slot s.checked) (locations_in team slot more) in
    mul-le-mul_left seed.server.location_check_points (omega (arith, grown))

abbrev pays : ℕ → ℕ → Hint → Bool
pays team slot h = h.bought && (h.team == team) && (h.buyer == slot)

marked_length : (hs : List Hint) (t f : ℕ) (l : ℤ) (s team slot : ℕ) → length (bought_by (marked hs t f l s) team slot) ≡ length (bought_by hs team slot)
marked_length [] t f l s team slot = refl
marked_length (g ∷ gs) t f l s team slot =
    elim (is_at t f l g) as (λ b. length (bought_by (cond b (with_status s g ∷ gs) (g ∷ marked gs t f l s)) team slot) ≡ length (bought_by (g ∷ gs) team slot)) [
      | true ↦
          elim (pays team slot g) as (λ b. length (cond b (with_status s g ∷ bought_by gs team slot) (bought_by gs team slot)) ≡ length (cond b (g ∷ bought_by gs team slot) (bought_by gs team slot))) [ true ↦ refl | false ↦ refl ]
      | false ↦
          elim (pays team slot g) as (λ b. length (cond b (g ∷ bought_by (marked gs t f l s) team slot) (bought_by (marked gs t f l s) team slot)) ≡ length (cond b (g ∷ bought_by gs team slot) (bought_by gs team slot))) [
            | true ↦ ap suc (marked_length gs t f l s team slot)
            | false ↦ marked_length gs t f l s team slot
          ]
    ]

made_free : (hs : List Hint) (h : Hint) (team slot : ℕ) → pays team slot h ≡ false → length (bought_by (made hs h) team slot) ≡ length (bought_by hs team slot)
made_free hs h team slot free =
    cond_both (is_some (hint_at hs h.team h.finder h.location)) hs (hs ++ h ∷ []) (λ ks. length (bought_by ks team slot) ≡ length (bought_by hs team slot)) (λ _. refl)
    (λ _. ap length (filter-append (pays team slot) hs (h ∷ []) ∙ ap (λ ks. bought_by hs team slot ++ ks) (cond-false (pays team slot h) (h ∷ []) [] free))
    ∙ length-append (bought_by hs team slot) [] ∙ omega arith)

hinted_free : (hs : List Hint) (r : Record) (team slot : ℕ) → is_free r ≡ true → length (bought_by (hinted hs r) team slot) ≡ length (bought_by hs team slot)
hinted_free hs (checks t s locations) team slot free = refl
hinted_free hs (release t s) team slot free = refl
hinted_free hs (collect t s) team slot free = refl
hinted_free hs (status t s number) team slot free = refl
hinted_free hs (hint h) team slot free =
    made_free hs h team slot (and_left (h.bought && (h.team == team)) (h.buyer == slot) (and_left h.bought (h.team == team) (not-true h.bought free)))
hinted_free hs (hint_status t f l s) team slot free = marked_length hs t f l s team slot
hinted_free hs (store key value) team slot free = refl

step_free : (seed : Seed) (s : Standing) (r : Record) (team slot : ℕ) → is_free r ≡ true → Covered seed s team slot → Covered seed (step seed s r) team slot
step_free seed s r team slot free h =
    subst (λ n. cost seed slot * n ≤ worth seed (step seed s r) team slot) (sym (hinted_free s.hints r team slot free)) (le_trans h (worth_grows seed s r team slot))

steps_free : (seed : Seed) (s : Standing) (rs : List Record) (team slot : ℕ) → list_all is_free rs ≡ true → Covered seed s team slot → Covered seed (steps seed s rs) team slot
steps_free seed s [] team slot free h = h
steps_free seed s (r ∷ rs) team slot free h =
    let parts = and_parts (is_free r) (list_all is_free rs) free in
    steps_free seed (step seed s r) rs team slot parts.1 (step_free seed s r team slot parts.0 h)

-- ---- a hint that is bought

-- one hint more at most
made_one : (hs : List Hint) (h : Hint) (team slot : ℕ) → length (bought_by (made hs h) team slot) ≤ length (bought_by hs team slot) + 1
made_one hs h team slot =
    cond_both (is_some (hint_at hs h.team h.finder h.location)) hs (hs ++ h ∷ []) (λ ks. length (bought_by ks team slot) ≤ length (bought_by hs team slot) + 1) (λ _. omega arith)
    (λ _. subst (λ n. n ≤ length (bought_by hs team slot) + 1) (sym (ap length (filter-append (pays team slot) hs (h ∷ [])) ∙ length-append (bought_by hs team slot) (bought_by (h ∷ []) team slot)))
    (elim (pays team slot h) as (λ b. length (bought_by hs team slot) + length (cond b (h ∷ []) []) ≤ length (bought_by hs team slot) + 1) [ true ↦ le_refl (length (bought_by hs team slot) + 1) | false ↦ omega arith ]))

afford : (price n w : ℕ) → 1 ≤ price → price ≤ w - price * n → price * (n + 1) ≤ w
afford price n w some left = omega arith

one_at_least : (n : ℕ) → 1 ≤ max 1 n
one_at_least n = omega arith

-- whoever has the price left may buy
buys : (seed : Seed) (s : Standing) (m : Member) (at : Held) (team slot : ℕ) → cost seed m.slot ≤ points seed s m.team m.slot
    → Covered seed s team slot → Covered seed (step seed s (hint (bought_hint m.team m.slot at))) team slot
buys seed s m at team slot left h =
    let g = bought_hint m.team m.slot at in
    let r = hint g in
    let more = worth_grows seed s r team slot in
    elim (pays team slot g) as (λ b. pays team slot g ≡ b → Covered seed (step seed s r) team slot) [
      | true ↦ λ is.
          let parts = and_parts (m.team == team) (m.slot == slot) is in
          let own : cost seed slot ≤ points seed s team slot = subst₂ (λ t u. cost seed u ≤ points seed s t u) (eqb-true m.team team parts.0) (eqb-true m.slot slot parts.1) left in
          let price = cost seed slot in
          let n = length (bought_by s.hints team slot) in
          let paid_all : price * (n + 1) ≤ worth seed s team slot = afford price n (worth seed s team slot) (one_at_least _) own in
          le_trans (mul-le-mul_left price (made_one s.hints g team slot)) (le_trans paid_all more)
      | false ↦ λ other. subst (λ n. cost seed slot * n ≤ worth seed (step seed s r) team slot) (sym (made_free s.hints g team slot other)) (le_trans h more)
    ] refl

-- ---- effects

-- records leave it to nobody to owe
abbrev Keeps : Seed → Standing → List Record → Type 0
Keeps seed s rs = (team slot : ℕ) → Covered seed s team slot → Covered seed (steps seed s rs) team slot

free_keeps : (seed : Seed) (s : Standing) (rs : List Record) → list_all is_free rs ≡ true → Keeps seed s rs
free_keeps seed s rs free team slot h = steps_free seed s rs team slot free h

bought_keeps : (seed : Seed) (s : Standing) (m : Member) (at : Held) → cost seed m.slot ≤ points seed s m.team m.slot → Keeps seed s (hint (bought_hint m.team m.slot at) ∷ [])
bought_keeps seed s m at left team slot h = buys seed s m at team slot left h

-- a value costs nothing
store_keeps : (seed : Seed) (s : Standing) (key : List ℕ) (value : Json) → Keeps seed s (store key value ∷ [])
store_keeps seed s key value team slot h = le_trans h (worth_grows seed s (store key value) team slot)

storing_keeps : (seed : Seed) (s : Standing) (m : Member) (set : SetPacket) (done : Result Changed Refused) → Keeps seed s (storing s m set done).records
storing_keeps seed s m set (Err r) = λ team slot h. h
storing_keeps seed s m set (Ok c) =
    cond_both (is_kept c.new (value_of set.key s.storage)) [] (store set.key c.new ∷ []) (Keeps seed s) (λ _ team slot h. h) (λ _. store_keeps seed s set.key c.new)

event_keeps : (room : Room) (event : Event) → Keeps room.seed (now room) (effect_in room event).records
event_keeps room (opened time) = λ team slot h. h
event_keeps room (sent number packet) =
    packet_records room.seed (now room) (Keeps room.seed (now room)) (free_keeps room.seed (now room)) (bought_keeps room.seed (now room))
    (members_in room.sessions) (member_in room.sessions number) packet (λ m set is. storing_keeps room.seed (now room) m set (set_case (now room).storage set))
event_keeps room (failed number bad) = λ team slot h. h
event_keeps room (lost number) =
    parting_records room.seed (now room) (Keeps room.seed (now room)) (free_keeps room.seed (now room)) (bought_keeps room.seed (now room)) (member_in room.sessions number)

-- ---- rooms

abbrev IsCovered : Room → ℕ → ℕ → Type 0
IsCovered room team slot = Covered room.seed (now room) team slot

next_covered : (room : Room) (event : Event) (team slot : ℕ) → IsCovered room team slot → IsCovered (next room event) team slot
next_covered room event team slot h =
    subst₂ (λ seed journal. Covered seed (standing seed journal) team slot) (sym (next_seed room event)) (sym (next_journal room event))
    (subst (λ s. Covered room.seed s team slot) (sym (standing-append room.seed room.journal (effect_in room event).records)) (event_keeps room event team slot h))

after_covered : (room : Room) (turn : Turn) (team slot : ℕ) → IsCovered room team slot → IsCovered (after room turn) team slot
after_covered room (happens event) team slot h = next_covered room event team slot h
after_covered room (takes number) team slot h = h

all_covered : (room : Room) (turns : List Turn) (team slot : ℕ) → IsCovered room team slot → IsCovered (after_all room turns) team slot
all_covered room [] team slot h = h
all_covered room (t ∷ ts) team slot h = all_covered (after room t) ts team slot (after_covered room t team slot h)

free_start : (price w : ℕ) → price * 0 ≤ w
free_start price w = omega arith

left_over : (x w : ℕ) → x ≤ w → (w - x) + x ≡ w
left_over x w h = omega arith

pub slots_never_owe : SlotsNeverOwe
slots_never_owe seed turns team slot =
    let room = room_after seed turns in
    let s = now room in
    let covered : Covered seed s team slot =
    subst (λ e. Covered e s team slot) (all_seed (empty_room seed) turns) (all_covered (empty_room seed) turns team slot (free_start (cost seed slot) (worth seed (now (empty_room seed)) team slot))) in
    record { covered = covered; points = left_over (spent seed s team slot) (worth seed s team slot) covered }
