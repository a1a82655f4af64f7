-- Plans, from what is kept to every plain room that the code stands for.
use Rattle.std.proofs.Common.{◌≡◌, ℕ, ◌+◌, ◌≤◌, ◌^◌, List, [], ◌∷◌, ◌++◌, Option, Some, None, option_map, length, map, refl, sym, ap, ap₂, ◌∙◌, arith, append-nil, cond, true, false, ◌==◌}
use Rattle.std.proofs.lemmas.List.{length-map}
use Rattle.mw_protocol.specs.Rooms as plain
use Rattle.mw_protocol.specs.Standing.{Standing, steps}
use Rattle.mw_records.specs.Records.{record_view}
use Rattle.mw_records.specs.declared.record.Record.{Record}
use Rattle.mw_room.specs.Fits.{Fits}
use Rattle.mw_room.specs.Known.{Shown, Known, shown, shown_at, told, dropped, with_text, with_member, known_closed, shown_after, greeted, leaves, known_effect, known_affected, known_next}
use Rattle.mw_room.specs.Represents.{Represents, Plans, IsPlan}
use Rattle.mw_room.specs.States.{state_of}
use Rattle.mw_effects.specs.Views.{effect_view}
use Rattle.mw_room.specs.Views.{session_view, room_view, planned, made, changed, shown_state}
use Rattle.mw_effects.specs.Parts.{IsQuiet}
use Rattle.mw_effects.specs.declared.effect.Effect.{Effect}
use Rattle.mw_room.specs.declared.plan.Plan.{Plan}
use Rattle.mw_room.specs.declared.room.Room.{Room}
use Rattle.mw_room.specs.declared.session.Change.{Change}
use Rattle.mw_room.specs.declared.session.Session.{Session}
use Rattle.mw_room.proofs.Keeping.{effect_is, known_is, sound_next, shown_is}

-- a plan of what is kept is one in each plain room that the room stands for
pub lifted : (room : Room) (plan : Plan) (r : plain.Room) (e : plain.Event) → IsPlan plan (room_view room) e → Represents room r → Plans plan r e
lifted room plan r e h st = record {
  records = h.records ∙ ap (λ k. (known_effect k e).records) st.known ∙ ap (λ x. x.records) (effect_is r e);
  after = ap (planned plan) (sym st.known) ∙ h.after ∙ ap (λ k. known_next k e) st.known ∙ sym (known_is r e st.sound);
}

-- and what it makes of the room stands for the next plain room
pub applied : (old new : Room) (plan : Plan) (r : plain.Room) (e : plain.Event) → room_view new ≡ planned plan (room_view old) → Represents old r → Plans plan r e → Represents new (plain.next r e)
applied old new plan r e h st p = record { known = h ∙ ap (planned plan) st.known ∙ p.after; sound = sound_next r e st.sound }

-- ---- the parts of a plan

records_many : (effect : Effect) → length effect.records ≡ length (map record_view effect.records)
records_many effect = sym (length-map effect.records record_view)

-- of a sender's effect
pub affected_made : (k : Known) (effect : Effect) (after : Standing) (cs : List Change) (ns : List Session) (sender : ℕ) → after ≡ steps k.seed k.now (map record_view effect.records) → ns ≡ []
    → ((len : ℕ) → changed len k.sessions cs ≡ map (shown_after k.seed k.now after (effect_view effect) sender len) k.sessions)
    → made k effect cs None ns ≡ known_affected k sender (effect_view effect)
affected_made k effect after cs ns sender comes none so =
    let len = k.length + length effect.records in
    let count : len ≡ k.length + length (map record_view effect.records) = ap (λ n. k.length + n) (records_many effect) in
    let nobody : length ns ≡ 0 = ap length none in
    let opened : k.opened + length ns ≡ k.opened = omega arith in
    let sessions : changed len k.sessions cs ++ map session_view ns
    ≡ map (shown_after k.seed k.now (steps k.seed k.now (map record_view effect.records)) (effect_view effect) sender (k.length + length (map record_view effect.records))) k.sessions =
    ap (λ (xs : List Session). changed len k.sessions cs ++ map session_view xs) none ∙ append-nil (changed len k.sessions cs) ∙ so len
    ∙ ap₂ (λ (now : Standing) (n : ℕ). map (shown_after k.seed k.now now (effect_view effect) sender n) k.sessions) comes count in
    ap (λ (n : ℕ). record { seed = k.seed; now = steps k.seed k.now (map record_view effect.records); length = n; opened = k.opened + length ns; sessions = changed len k.sessions cs ++ map session_view ns }) count
    ∙ ap₂ (λ (n : ℕ) (ss : List Shown). record { seed = k.seed; now = steps k.seed k.now (map record_view effect.records); length = k.length + length (map record_view effect.records); opened = n; sessions = ss }) opened sessions

-- those that leave leave before or after the others change
leaves_mapped : (n : ℕ) (f : Shown → Shown) → ((s : Shown) → (f s).number ≡ s.number) → (ss : List Shown) → leaves n (map f ss) ≡ map f (leaves n ss)
leaves_mapped n f same [] = refl
leaves_mapped n f same (s ∷ ss) =
    ap (λ (k : ℕ). cond (k == n) (map f ss) (f s ∷ leaves n (map f ss))) (same s)
    ∙ elim (s.number == n) as (λ b. cond b (map f ss) (f s ∷ leaves n (map f ss)) ≡ map f (cond b ss (s ∷ leaves n ss))) [
      | true ↦ refl
      | false ↦ ap (λ (xs : List Shown). f s ∷ xs) (leaves_mapped n f same ss)
    ]

told_number : (t : Option (List ℕ)) (len : ℕ) (s : Shown) → (told t len s).number ≡ s.number
told_number None len s = refl
told_number (Some text) len s =
    elim s.overrun as (λ b. (cond b s (cond (plain.is_full s.texts) (dropped s) (with_text text len s))).number ≡ s.number) [
      | true ↦ refl
      | false ↦ elim (plain.is_full s.texts) as (λ b. (cond b (dropped s) (with_text text len s)).number ≡ s.number) [ true ↦ refl | false ↦ refl ]
    ]

-- of a session that ends
pub lost_made : (k : Known) (effect : Effect) (after : Standing) (cs : List Change) (ns : List Session) (number : ℕ) → effect_view effect ≡ known_effect k (plain.lost number)
    → after ≡ steps k.seed k.now (map record_view effect.records) → ns ≡ []
    → ((len : ℕ) → changed len k.sessions cs ≡ map (shown_after k.seed k.now after (effect_view effect) number len) k.sessions)
    → made k effect cs (Some number) ns ≡ known_next k (plain.lost number)
lost_made k effect after cs ns number is comes none so =
    let k2 = affected_made k effect after cs ns number comes none so in
    let len = k.length + length (map record_view effect.records) in
    let f = shown_after k.seed k.now (steps k.seed k.now (map record_view effect.records)) (effect_view effect) number len in
    ap (λ (x : Known). record { seed = x.seed; now = x.now; length = x.length; opened = x.opened; sessions = leaves number x.sessions }) k2
    ∙ ap (λ (ss : List Shown). record { seed = k.seed; now = steps k.seed k.now (map record_view effect.records); length = len; opened = k.opened; sessions = ss })
    (leaves_mapped number f (λ s. told_number _ len (with_member _ s)) k.sessions)
    ∙ ap (known_affected (known_closed k number) number) is

-- of a session that is opened
pub opened_made : (k : Known) (effect : Effect) (cs : List Change) (ns : List Session) (time : ℕ) → IsQuiet effect → cs ≡ []
    → map session_view ns ≡ greeted k time ∷ []
    → made k effect cs None ns ≡ known_next k (plain.opened time)
opened_made k effect cs ns time quiet calm is =
    let one : length ns ≡ 1 = sym (length-map ns session_view) ∙ ap length is in
    let count : k.length + 0 ≡ k.length = omega arith in
    ap (λ (ds : List Change). made k effect ds None ns) calm
    ∙ ap (λ (rs : List Record). record { seed = k.seed; now = steps k.seed k.now (map record_view rs); length = k.length + length rs; opened = k.opened + length ns; sessions = k.sessions ++ map session_view ns }) quiet.records
    ∙ ap₂ (λ (n : ℕ) (ss : List Shown). record { seed = k.seed; now = k.now; length = k.length + 0; opened = k.opened + n; sessions = k.sessions ++ ss }) one is
    ∙ ap (λ (n : ℕ). record { seed = k.seed; now = k.now; length = n; opened = k.opened + 1; sessions = k.sessions ++ greeted k time ∷ [] }) count

-- ---- what a session waits for

state_shown : (o : Option plain.Session) → shown_state (option_map shown o) ≡ state_of o
state_shown None = refl
state_shown (Some s) = refl

pub state_is : (n : ℕ) (ss : List plain.Session) → shown_state (shown_at n (map shown ss)) ≡ state_of (plain.session_in ss n)
state_is n ss = ap shown_state (shown_is n ss) ∙ state_shown (plain.session_in ss n)

-- once 2^63 sessions were opened no plan opens one more
pub never_more : (room : Room) (plan : Plan) (r : plain.Room) (e : plain.Event) (time : ℕ) → Fits room plan → IsPlan plan (room_view room) e → Represents room r → 2 ^ 63 ≤ r.opened → e ≡ plain.opened time → ⊥
never_more room plan r e time fits is st full opens =
    let count : plan.opened ≡ room.opened + 1 = ap (λ (k : Known). k.opened) is.after ∙ ap (λ (x : plain.Event). (known_next (room_view room) x).opened) opens in
    let same : room.opened ≡ r.opened = ap (λ (k : Known). k.opened) st.known in
    let few : plan.opened ≤ 2 ^ 63 = fits.opened in
    omega arith
