-- The calls of `stress` never fill a journal.
use Rattle.std.proofs.Common.{◌≡◌, ◌∙◌, ◌≤◌, ◌+◌, ◌*◌, ◌^◌, ◌⊎◌, ◌||◌, inl, inr, ℕ, zero, suc, ℤ, pos, List, [], ◌∷◌, ◌++◌, Bool, true, false, cond, nat_le, length, map, drop, refl, sym, ap, subst, arith, length-append, append-nil}
use Rattle.std.specs.Prelude.{Option, Some, None, nat_lt, is_some}
use Rattle.std.proofs.lemmas.Grind.{common_steps, flat_map-append}
use Rattle.std.proofs.lemmas.List.{drop_all, drop-append-le}
use Rattle.mw_model.specs.Seed.{Seed, held_at}
use Rattle.mw_protocol.specs.Checks.{Check, checks_at, has_check, unseen}
use Rattle.mw_protocol.specs.Connecting.{Member, member_by}
use Rattle.mw_protocol.specs.Effects.{effect_of}
use Rattle.mw_protocol.specs.Entering.{joining}
use Rattle.mw_protocol.specs.Lives.{Life, Call, happens, commits, takes, journal_full, too_many_calls, Reply, overrun, stopped, fine, passes, stops, answer, append, append_of, committed_then, counted, ends, length_with, life_after, life_of, life_unless, named_by, new_life, pending_of, place_then, records_of, refusal, refused_by, refused_in, refused_to, reply_of, reply_to, reply_unless, shows_pending}
use Rattle.mw_protocol.specs.Locating.{checks_record}
use Rattle.mw_protocol.specs.Locations.{location_of, new_checks}
use Rattle.mw_protocol.specs.Packets.{Connect, connect, location_checks}
use Rattle.mw_protocol.specs.Records.{Record, checks}
use Rattle.mw_protocol.specs.Rooms.{Room, Session, Event, opened, sent, failed, lost, next, session_in, member_in, members_in, taken}
use Rattle.mw_protocol.specs.Spelled.{record_bytes, records_bytes}
use Rattle.mw_protocol.specs.Standing.{Standing, standing}
use Rattle.mw_drive.specs.Drive.{is_stopped, stop}
use Rattle.mw_stress.specs.Sent.{checking}
use Rattle.mw_offline.specs.Stressing.{entering, all_entering, all_checking, rounds, all_taking, all_calls}

-- ---- what a call records

some_bytes : (team slot : ℕ) (l : ℤ) → length (record_bytes (checks team slot (l ∷ []))) ≡ 16
some_bytes team slot l = refl

record_of_one : (team slot : ℕ) (cs : List Check) → length cs ≤ 1 → length (records_bytes (checks_record team slot (map location_of cs))) ≤ 16
record_of_one team slot [] few = omega arith
record_of_one team slot (c ∷ []) few = let long : length (records_bytes (checks team slot (c.location ∷ []) ∷ [])) ≡ 16 = refl in omega (arith, long)
record_of_one team slot (c ∷ d ∷ cs) few = absurd (omega arith)

kept_one : (b : Bool) (c : Check) → length (cond b [] (c ∷ [])) ≤ 1
kept_one true c = omega arith
kept_one false c = omega arith

new_of_one : (b : Bool) (seen : List Check) (team slot : ℕ) (l : ℤ) → length (unseen seen (checks_at team slot (cond b (l ∷ []) []))) ≤ 1
new_of_one true seen team slot l = kept_one (has_check seen record { team = team; slot = slot; location = l }) record { team = team; slot = slot; location = l }
new_of_one false seen team slot l = omega arith

-- at most sixteen bytes in any room
abbrev pub IsLight : Call → Type 0
IsLight c = (room : Room) → length (records_bytes (records_of room c)) ≤ 16

joined_light : (seed : Seed) (now : Standing) (fields : Connect) (m : Option Member) → (joining seed now fields m).records ≡ []
joined_light seed now fields None = refl
joined_light seed now fields (Some m) = refl

connect_light : (seed : Seed) (now : Standing) (members : List Member) (fields : Connect) (m : Option Member) → (effect_of seed now members m (connect fields)).records ≡ []
connect_light seed now members fields None = joined_light seed now fields (member_by seed fields)
connect_light seed now members fields (Some m) = refl

checks_light : (seed : Seed) (now : Standing) (members : List Member) (l : ℤ) (m : Option Member) → length (records_bytes (effect_of seed now members m (location_checks (l ∷ []))).records) ≤ 16
checks_light seed now members l None = omega arith
checks_light seed now members l (Some m) = record_of_one m.team m.slot (new_checks seed now.checked m.team m.slot (l ∷ [])) (new_of_one (is_some (held_at seed m.slot l)) now.checked m.team m.slot l)

no_bytes : (rs : List Record) → rs ≡ [] → length (records_bytes rs) ≤ 16
no_bytes rs is = rw is (omega arith)

-- ---- a life with room

pub record HasRoom (life : Life) (spent : ℕ) : Type 0 where
  pub unstopped : life.stopped ≡ None
  pub calls : life.calls ≤ spent
  pub within : life.committed ≤ length life.room.journal
  pub size : life.place + length (records_bytes (pending_of life)) ≤ 40 + 16 * spent

few_calls : (n : ℕ) → n ≤ 10000 → nat_le (2 ^ 63) n ≡ false
few_calls n few = grind (arith, common_steps)

-- a refusal that doesn't stop
abbrev IsQuiet : Option Reply → Type 0
IsQuiet None = Unit {0}
IsQuiet (Some r) = is_stopped r ≡ false

quiet_by : (b : Bool) → IsQuiet (cond b (Some overrun) None)
quiet_by true = refl
quiet_by false = tt

quiet_to : (ending : Bool) (s : Option Session) → IsQuiet (refused_to ending s)
quiet_to ending None = refl
quiet_to ending (Some s) = quiet_by _

quiet_in : (room : Room) (ending : Bool) (named : Option ℕ) → IsQuiet (refused_in room ending named)
quiet_in room ending None = tt
quiet_in room ending (Some number) = quiet_to ending (session_in room.sessions number)

quiet : (life : Life) (spent : ℕ) (c : Call) → HasRoom life spent → spent ≤ 10000 → IsQuiet (refusal life c)
quiet life spent c h few =
    let calls = h.calls in
    let none : refusal life c ≡ refused_in life.room (ends c) (named_by c) =
    ap (λ s. refused_by s life.calls (refused_in life.room (ends c) (named_by c))) h.unstopped
    ∙ ap (λ b. cond b (Some (stopped (too_many_calls (2 ^ 63)))) (refused_in life.room (ends c) (named_by c))) (few_calls life.calls (omega (arith, calls, few))) in
    subst IsQuiet (sym none) (quiet_in life.room (ends c) (named_by c))

-- an answer doesn't stop
answers_on : (room : Room) (c : Call) → is_stopped (answer room c) ≡ false
answers_on room (happens (opened time)) = refl
answers_on room (happens (sent number packet)) = refl
answers_on room (happens (failed number bad)) = refl
answers_on room (happens (lost number)) = refl
answers_on room commits = refl
answers_on room (takes number) = refl

unless : (refused : Option Reply) (otherwise : Reply) → IsQuiet refused → is_stopped otherwise ≡ false → is_stopped (reply_unless refused otherwise) ≡ false
unless None otherwise q h = h
unless (Some r) otherwise q h = q

counted_room : (life : Life) (spent : ℕ) → HasRoom life spent → HasRoom (counted life) (suc spent)
counted_room life spent h = let calls = h.calls in let size = h.size in record { unstopped = h.unstopped; calls = omega (arith, calls); within = h.within; size = omega (arith, size) }

left_unless : (refused : Option Reply) (life then : Life) (spent : ℕ) → HasRoom life spent → HasRoom then (suc spent) → HasRoom (life_unless refused life then) (suc spent)
left_unless None life then spent h t = t
left_unless (Some r) life then spent h t = counted_room life spent h

-- ---- events

grows : (room : Room) (e : Event) → (next room e).journal ≡ room.journal ++ records_of room (happens e)
grows room (opened time) = sym (append-nil room.journal)
grows room (sent number packet) = refl
grows room (failed number bad) = refl
grows room (lost number) = refl

event_room : (life : Life) (spent : ℕ) (e : Event) → HasRoom life spent → length (records_bytes (records_of life.room (happens e))) ≤ 16 → HasRoom (life_of life (happens e) passes) (suc spent)
event_room life spent e h light =
    let new = records_of life.room (happens e) in
    let calls = h.calls in
    let within = h.within in
    let size = h.size in
    let journal : (next life.room e).journal ≡ life.room.journal ++ new = grows life.room e in
    let long : length (next life.room e).journal ≡ length life.room.journal + length new = ap length journal ∙ length-append life.room.journal new in
    let pending : drop life.committed (next life.room e).journal ≡ drop life.committed life.room.journal ++ new = ap (drop life.committed) journal ∙ drop-append-le life.committed life.room.journal new within in
    let bytes : length (records_bytes (drop life.committed (next life.room e).journal)) ≡ length (records_bytes (drop life.committed life.room.journal)) + length (records_bytes new) =
    ap (λ rs. length (records_bytes rs)) pending ∙ ap length (flat_map-append record_bytes (drop life.committed life.room.journal) new)
    ∙ length-append (records_bytes (drop life.committed life.room.journal)) (records_bytes new) in
    record { unstopped = h.unstopped; calls = omega (arith, calls); within = omega (arith, within, long); size = omega (arith, size, bytes, light) }

-- ---- takes

fits : (place len : ℕ) → len ≤ 2 ^ 30 → nat_lt (2 ^ 30) len ≡ false
fits place len few = grind (arith, common_steps)

goes_in : (place : ℕ) (rs : List Record) → place + 6 + length (records_bytes rs) ≤ 2 ^ 30 → append place fine rs ≡ passes
goes_in place [] few = refl
goes_in place (r ∷ rs) few = ap (λ b. cond b (stops (journal_full (length_with place (r ∷ rs)))) passes) (fits place (length_with place (r ∷ rs)) few)

-- what a take appends is all that is pending, or nothing
abbrev TakesAll : Life → List Record → Type 0
TakesAll life rs = (rs ≡ []) ⊎ (rs ≡ pending_of life)

takes_all : (life : Life) (b : Bool) → TakesAll life (cond b (pending_of life) [])
takes_all life true = inr refl
takes_all life false = inl refl

-- the life once so much is appended
abbrev appended_life : Life → ℕ → List Record → Life
appended_life life number rs = record {
  room = taken life.room number;
  committed = committed_then life rs;
  place = place_then life.place rs;
  stopped = life.stopped;
  calls = life.calls + 1;
}

take_room : (life : Life) (spent number : ℕ) (rs : List Record) → HasRoom life spent → TakesAll life rs → HasRoom (appended_life life number rs) (suc spent)
take_room life spent number [] h all = let calls = h.calls in let size = h.size in record { unstopped = h.unstopped; calls = omega (arith, calls); within = h.within; size = omega (arith, size) }
take_room life spent number (r ∷ rs) h (inl none) = cc
take_room life spent number (r ∷ rs) h (inr all) =
    let calls = h.calls in
    let size = h.size in
    let gone : drop (length life.room.journal) life.room.journal ≡ [] = drop_all (length life.room.journal) life.room.journal (omega arith) in
    let nothing_left : length (records_bytes (drop (length life.room.journal) life.room.journal)) ≡ 0 = ap (λ x. length (records_bytes x)) gone in
    let same : length (records_bytes (r ∷ rs)) ≡ length (records_bytes (pending_of life)) = ap (λ x. length (records_bytes x)) all in
    record { unstopped = h.unstopped; calls = omega (arith, calls); within = omega arith; size = omega (arith, size, same, nothing_left) }

-- ---- a call

-- an event or a take
abbrev pub IsPlain : Call → Type 0
IsPlain (happens e) = IsLight (happens e)
IsPlain commits = ⊥
IsPlain (takes number) = Unit {0}

pub one_call : (life : Life) (spent : ℕ) (c : Call) → IsPlain c → HasRoom life spent → spent ≤ 10000
    → (is_stopped (reply_to life c fine) ≡ false) × HasRoom (life_after life c fine) (suc spent)
one_call life spent (happens e) light h few = (
  unless (refusal life (happens e)) (answer life.room (happens e)) (quiet life spent (happens e) h few) (answers_on life.room (happens e)),
  left_unless (refusal life (happens e)) life (life_of life (happens e) passes) spent h (event_room life spent e h (light life.room)),
)
one_call life spent commits light h few = absurd light
one_call life spent (takes number) light h few =
    let rs = append_of life (takes number) in
    let all : TakesAll life rs = takes_all life (shows_pending life number) in
    let size = h.size in
    let bytes : length (records_bytes rs) ≤ length (records_bytes (pending_of life)) =
    elim all [ inl none ↦ (let zero_long : length (records_bytes rs) ≡ 0 = ap (λ x. length (records_bytes x)) none in omega (arith, zero_long)) | inr every ↦ (let same : length (records_bytes rs) ≡ length (records_bytes (pending_of life)) = ap (λ x. length (records_bytes x)) every in omega (arith, same)) ] in
    let passing : append life.place fine rs ≡ passes = goes_in life.place rs (omega (arith, size, bytes, few)) in
    let replied : reply_of life.room (takes number) (append life.place fine rs) ≡ answer life.room (takes number) = ap (reply_of life.room (takes number)) passing in
    let left : life_of life (takes number) (append life.place fine rs) ≡ life_of life (takes number) passes = ap (life_of life (takes number)) passing in (
      unless (refusal life (takes number)) _ (quiet life spent (takes number) h few) (ap is_stopped replied ∙ answers_on life.room (takes number)),
      left_unless (refusal life (takes number)) life _ spent h (subst (λ l. HasRoom l (suc spent)) (sym left) (take_room life spent number rs h all)),
    )

-- ---- calls one after another

abbrev AllPlain : List Call → Type 0
AllPlain [] = Unit {0}
AllPlain (c ∷ cs) = IsPlain c × AllPlain cs

both_go : (b c : Bool) → b ≡ false → c ≡ false → (b || c) ≡ false
both_go b c p q = rw (p, q) refl

all_go : (cs : List Call) (life : Life) (spent : ℕ) → AllPlain cs → HasRoom life spent → spent + length cs ≤ 10000 → stop life cs ≡ false
all_go [] life spent all h few = refl
all_go (c ∷ cs) life spent all h few =
    let one = one_call life spent c all.0 h (omega (arith, few)) in
    both_go (is_stopped (reply_to life c fine)) (stop (life_after life c fine) cs) one.0 (all_go cs (life_after life c fine) (suc spent) all.1 one.1 (omega (arith, few)))

plain_append : (cs ds : List Call) → AllPlain cs → AllPlain ds → AllPlain (cs ++ ds)
plain_append [] ds p q = q
plain_append (c ∷ cs) ds p q = (p.0, plain_append cs ds p.1 q)

-- ---- the calls of `stress`

entering_plain : (slot : ℕ) → AllPlain (entering slot)
entering_plain slot = (
  (λ room. omega arith),
  ((λ room. no_bytes _ (connect_light room.seed (standing room.seed room.journal) (members_in room.sessions) _ (member_in room.sessions slot))), (tt, tt)),
)

all_entering_plain : (n : ℕ) → AllPlain (all_entering n)
all_entering_plain zero = tt
all_entering_plain (suc n) = plain_append (all_entering n) (entering (n + 1)) (all_entering_plain n) (entering_plain (n + 1))

checking_plain : (slot location : ℕ) → AllPlain (happens (sent slot (checking location)) ∷ [])
checking_plain slot location = (
  (λ room. checks_light room.seed (standing room.seed room.journal) (members_in room.sessions) (pos location) (member_in room.sessions slot)),
  tt,
)

all_checking_plain : (n location : ℕ) → AllPlain (all_checking n location)
all_checking_plain zero location = tt
all_checking_plain (suc n) location = plain_append (all_checking n location) (happens (sent (n + 1) (checking location)) ∷ []) (all_checking_plain n location) (checking_plain (n + 1) location)

rounds_plain : (many n : ℕ) → AllPlain (rounds many n)
rounds_plain many zero = tt
rounds_plain many (suc n) = plain_append (rounds many n) (all_checking many (n + 1)) (rounds_plain many n) (all_checking_plain many (n + 1))

all_taking_plain : (n : ℕ) → AllPlain (all_taking n)
all_taking_plain zero = tt
all_taking_plain (suc n) = plain_append (all_taking n) (takes (n + 1) ∷ []) (all_taking_plain n) (tt, tt)

entering_long : (n : ℕ) → length (all_entering n) ≡ 3 * n
entering_long zero = omega arith
entering_long (suc n) = let before = entering_long n in let parts = length-append (all_entering n) (entering (n + 1)) in omega (arith, before, parts)

checking_long : (n location : ℕ) → length (all_checking n location) ≡ n
checking_long zero location = refl
checking_long (suc n) location = let before = checking_long n location in let parts = length-append (all_checking n location) (happens (sent (n + 1) (checking location)) ∷ []) in omega (arith, before, parts)

rounds_long : (many n : ℕ) → many ≤ 64 → length (rounds many n) ≤ 64 * n
rounds_long many zero few = omega arith
rounds_long many (suc n) few =
    let before = rounds_long many n few in
    let here = checking_long many (n + 1) in
    let parts = length-append (rounds many n) (all_checking many (n + 1)) in
    omega (arith, before, here, parts, few)

taking_long : (n : ℕ) → length (all_taking n) ≡ n
taking_long zero = refl
taking_long (suc n) = let before = taking_long n in let parts = length-append (all_taking n) (takes (n + 1) ∷ []) in omega (arith, before, parts)

-- none of them stops the room
pub never_full : (file : Seed) (many : ℕ) → many ≤ 64 → stop (new_life file [] 40) (all_calls many) ≡ false
never_full file many few =
    let first : HasRoom (new_life file [] 40) 0 = record { unstopped = refl; calls = omega arith; within = omega arith; size = omega arith } in
    let one = entering_long many in
    let two = rounds_long many 60 few in
    let three = taking_long many in
    let parts = length-append (all_entering many) (rounds many 60 ++ all_taking many) in
    let rest = length-append (rounds many 60) (all_taking many) in
    all_go (all_calls many) (new_life file [] 40) 0 (plain_append (all_entering many) (rounds many 60 ++ all_taking many) (all_entering_plain many) (plain_append (rounds many 60) (all_taking many) (rounds_plain many 60) (all_taking_plain many))) first
    (omega (arith, one, two, three, parts, rest, few))
