-- What a Set does.
use Rattle.std.proofs.Common.{◌≡◌, ℕ, ◌==◌, List, Bool, true, false, cond, ◌∷◌, [], ◌++◌, Option, Some, None, Result, Ok, Err, refl, sym, ap, ◌∙◌, append-nil, codes, length, IsTrue}
use Rattle.std.specs.Prelude.{IfOk, ◌+◌}
use Rattle.std.proofs.lemmas.Bool.{cond_both, cond-true, cond-false}
use Rattle.std.specs.List.{list_all}
use Rattle.mw_model.specs.Json.{Json, no_members, member}
use Rattle.mw_model.specs.Seed.{Seed}
use Rattle.mw_model.specs.Sets.{Operation, SetPacket}
use Rattle.mw_model.specs.Texts.{has_text}
use Rattle.mw_protocol.specs.Connecting.{Member}
use Rattle.mw_protocol.specs.Effects.{effect_of}
use Rattle.mw_protocol.specs.Equal.{json_eq}
use Rattle.mw_protocol.specs.Heard.{watchers_hear}
use Rattle.mw_protocol.specs.Messages.{invalid_packet, retrieved, set_reply}
use Rattle.mw_protocol.specs.Operations.{Fault, operated}
use Rattle.mw_protocol.specs.Packets.{change}
use Rattle.mw_protocol.specs.Reading.{read_value, or_null, private_value}
use Rattle.mw_protocol.specs.Records.{store}
use Rattle.mw_protocol.specs.Rooms.{Room, sent, effect_in, member_in, members_in, affected, next}
use Rattle.mw_protocol.specs.Standing.{Standing, step, steps, standing}
use Rattle.mw_protocol.specs.Storage.{Kept, Refused, private_key, store_full, Changed, bytes_kept, is_too_much, value_of, put, before, is_private, refused_at, run_from, kept_after, set_case, ◌then◌}
use Rattle.mw_protocol.specs.Storing.{is_kept, store_records, storing, refused_by, reply_to}
use Rattle.mw_laws.specs.Stored.{hears_of, SetsAreTold, value_in, sets_nothing, RefusedSetsChangeNothing, IsGot, RecordedIsGot, SetsAreGot}
use Rattle.mw_laws.specs.Told.{telling_where}
use Rattle.mw_laws.specs.Turns.{Turn, after_all, now}
use Rattle.mw_laws.proofs.Each.{some_same, none_some}
use Rattle.mw_laws.proofs.Equal.{json_same}
use Rattle.mw_laws.proofs.Getting.{got, gets_are_answered}
use Rattle.mw_laws.proofs.Journal.{standing-append}
use Rattle.mw_laws.proofs.Quiet.{answered, announced_to, hears_as}
use Rattle.mw_laws.proofs.Stored.{put_same, steps_other, turns_stay}

pub refused_sets_change_nothing : RefusedSetsChangeNothing
refused_sets_change_nothing room number m set r is refused =
    ap (λ member. affected room number (effect_of room.seed (now room) (members_in room.sessions) member (change set))) is
    ∙ ap (λ done. affected room number (storing (now room) m set done)) refused
    ∙ answered room number (invalid_packet (refused_by r))

-- ---- who is told

heard_of : (seed : Seed) (sender : ℕ) (set : SetPacket) (number : ℕ) (member : Option Member) → hears_of sender set number member ≡ hears_as seed (watchers_hear set.key set.want_reply) (number == sender) member
heard_of seed sender set number None = refl
heard_of seed sender set number (Some m) = refl

-- a value is neither of checks nor of hints
store_apart : (seed : Seed) (s : Standing) (kept : List Kept) (key : List ℕ) (new : Json)
    → ((steps seed s (store_records kept key new)).checked ≡ s.checked) × ((steps seed s (store_records kept key new)).hints ≡ s.hints)
store_apart seed s kept key new =
    cond_both (is_kept new (value_of key kept)) [] (store key new ∷ []) (λ rs. ((steps seed s rs).checked ≡ s.checked) × ((steps seed s rs).hints ≡ s.hints)) (λ _. (refl, refl)) (λ _. (append-nil s.checked, refl))

pub sets_are_told : SetsAreTold
sets_are_told room number m set c is done =
    let records = store_records (now room).storage set.key c.new in
    let s = standing-append room.seed room.journal records in
    let apart = store_apart room.seed (now room) (now room).storage set.key c.new in
    ap (λ member. affected room number (effect_of room.seed (now room) (members_in room.sessions) member (change set))) is
    ∙ ap (λ done. affected room number (storing (now room) m set done)) done
    ∙ announced_to room records number record { audience = watchers_hear set.key set.want_reply; packet = set_reply (reply_to m set c) }
    (λ s. hears_of number set s.number s.member) (refl, ap (λ t. t.checked) s ∙ apart.0, ap (λ t. t.hints) s ∙ apart.1)
    (λ s. heard_of room.seed number set s.number s.member)

-- ---- what is kept and got

-- after its records the new value is kept
kept_new : (seed : Seed) (s : Standing) (key : List ℕ) (new : Json) → value_of key (steps seed s (store_records s.storage key new)).storage ≡ Some new
kept_new seed s key new = by (value_of key s.storage) refl
  where
    by : (o : Option Json) → value_of key s.storage ≡ o → value_of key (steps seed s (cond (is_kept new o) [] (store key new ∷ []))).storage ≡ Some new
    by None e = put_same key new s.storage
    by (Some old) e =
        cond_both (json_eq old new) [] (store key new ∷ []) (λ rs. value_of key (steps seed s rs).storage ≡ Some new)
        (λ same. e ∙ ap Some (json_same old new same)) (λ _. put_same key new s.storage)

set_kept : (room : Room) (number : ℕ) (m : Member) (set : SetPacket) (c : Changed) → member_in room.sessions number ≡ Some m → set_case (now room).storage set ≡ Ok c
    → value_of set.key (now (next room (sent number (change set)))).storage ≡ Some c.new
set_kept room number m set c is done =
    let records : (effect_in room (sent number (change set))).records ≡ store_records (now room).storage set.key c.new =
    ap (λ member. (effect_of room.seed (now room) (members_in room.sessions) member (change set)).records) is ∙ ap (λ done. (storing (now room) m set done).records) done in
    ap (λ rs. value_in room.seed (room.journal ++ rs) set.key) records
    ∙ ap (λ s. value_of set.key s.storage) (standing-append room.seed room.journal (store_records (now room).storage set.key c.new))
    ∙ kept_new room.seed (now room) set.key c.new

-- the change that is made, if it isn't refused
abbrev made : Result Changed Refused → Option Changed
made (Ok c) = Some c
made (Err r) = None

public : (kept : List Kept) (set : SetPacket) (c : Changed) → set_case kept set ≡ Ok c → is_private set.key ≡ false
public kept set c =
    elim (is_private set.key) as (λ b. cond b (Err private_key) (run_from 0 set.operations (before kept set) then kept_after kept set) ≡ Ok c → b ≡ false) [
      | true ↦ λ e. absurd (none_some c (ap made e))
      | false ↦ λ _. refl
    ]

-- operations of which the last replaces the value
abbrev and_replace : List Operation → Json → List Operation
and_replace first value = first ++ record { name = codes "replace"; value = value } ∷ []

run_replaces : (i : ℕ) (first : List Operation) (value j : Json) → IfOk (run_from i (and_replace first value) j) (λ new. new ≡ value)
unfolding operated
run_replaces i [] value j = refl
run_replaces i (o ∷ os) value j = by (operated o j) (run_replaces (i + 1) os value)
  where
    by : (r : Result Json Fault) → ((k : Json) → IfOk (run_from (i + 1) (and_replace os value) k) (λ new. new ≡ value)) → IfOk (refused_at i r then run_from (i + 1) (and_replace os value)) (λ new. new ≡ value)
    by (Ok k) rest = rest k
    by (Err fault) rest = tt

replaced_new : (kept : List Kept) (set : SetPacket) (c : Changed) (first : List Operation) (value : Json) → set_case kept set ≡ Ok c → set.operations ≡ and_replace first value → c.new ≡ value
replaced_new kept set c first value done replaces =
    let after = kept_after kept set in
    let ran : run_from 0 (and_replace first value) (before kept set) then after ≡ Ok c =
    sym (cond-false (is_private set.key) (Err private_key) (run_from 0 (and_replace first value) (before kept set) then after) (public kept set c done))
    ∙ ap (λ operations. cond (is_private set.key) (Err private_key) (run_from 0 operations (before kept set) then after)) (sym replaces) ∙ done in
    by (run_from 0 (and_replace first value) (before kept set)) (run_replaces 0 first value (before kept set)) ran
  where
    within : (new : Json) (full : Bool) → cond full (Err (store_full (bytes_kept (put set.key new kept)) (length (put set.key new kept)))) (Ok record { old = before kept set; new = new }) ≡ Ok c → c.new ≡ new
    within new true e = absurd (none_some c (ap made e))
    within new false e = ap (λ changed. changed.new) (sym (some_same (record { old = before kept set; new = new }) c (ap made e)))

    by : (r : Result Json Refused) → IfOk r (λ new. new ≡ value) → r then kept_after kept set ≡ Ok c → c.new ≡ value
    by (Ok new) is e = within new (is_too_much (put set.key new kept)) e ∙ is
    by (Err r) is e = absurd (none_some c (ap made e))

kept_got : (room : Room) (key : List ℕ) (value : Json) → is_private key ≡ false → value_of key (now room).storage ≡ Some value → IsGot room key value
kept_got room key value public kept =
    let read : read_value room.seed (now room) key ≡ value =
    cond-false (is_private key) (private_value room.seed (now room) key) (or_null (value_of key (now room).storage)) public ∙ ap or_null kept in
    record {
      alone = λ number m further is.
          got room number m (key ∷ []) further is ∙ ap (λ j. telling_where (λ s. s.number == number) (retrieved record { keys = member key j no_members; further = further }) room) read;
      among = λ number m keys further is has.
          let all = gets_are_answered room number m keys further is in
          (all.0, all.1, all.2 key ∙ cond-true (has_text keys key) (Some (read_value room.seed (now room) key)) None has ∙ ap Some read);
    }

pub recorded_is_got : RecordedIsGot
recorded_is_got room journal more key value public is spared =
    let before = standing room.seed journal in
    let kept : value_of key (now room).storage ≡ Some value =
    ap (λ records. value_in room.seed records key) is
    ∙ ap (λ s. value_of key s.storage) (standing-append room.seed journal (store key value ∷ more))
    ∙ steps_other key room.seed (step room.seed before (store key value)) more spared
    ∙ put_same key value before.storage in
    kept_got room key value public kept

pub sets_are_got : SetsAreGot
sets_are_got room number m set c is done =
    let later = λ (turns : List Turn). after_all (next room (sent number (change set))) turns in
    let kept : (turns : List Turn) → IsTrue (list_all (sets_nothing set.key) turns) → value_of set.key (now (later turns)).storage ≡ Some c.new =
    λ turns none. turns_stay (next room (sent number (change set))) turns set.key none ∙ set_kept room number m set c is done in
    record {
      kept = kept;
      got = λ turns none. kept_got (later turns) set.key c.new (public (now room).storage set c done) (kept turns none);
      public = public (now room).storage set c done;
      replaced = λ first value replaces. replaced_new (now room).storage set c first value done replaces;
    }
