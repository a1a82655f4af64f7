-- The data storage of a journal and of a room.
use Rattle.std.proofs.Common.{◌≡◌, ℕ, ◌&&◌, List, true, false, not, cond, ◌∷◌, [], ◌++◌, Some, None, Result, Ok, Err, refl, sym, ap, ap₂, ◌∙◌, bytes_eq, IsTrue}
use Rattle.std.proofs.lemmas.Bool.{and_parts, cond_both, cond-true, cond-false, false≢true, not-true}
use Rattle.std.proofs.lemmas.Slice.Eq.{bytes_eq-Decides}
use Rattle.std.specs.List.{list_all}
use Rattle.mw_model.specs.Json.{Json}
use Rattle.mw_model.specs.Seed.{Seed}
use Rattle.mw_model.specs.Sets.{SetPacket}
use Rattle.mw_protocol.specs.Connecting.{Member}
use Rattle.mw_protocol.specs.Records.{Record, checks, release, collect, status, hint, hint_status, store}
use Rattle.mw_protocol.specs.Rooms.{Room, Event, opened, sent, failed, lost, effect_in, member_in, members_in}
use Rattle.mw_protocol.specs.Standing.{Standing, step, steps, standing}
use Rattle.mw_protocol.specs.Storage.{Kept, Refused, Changed, value_of, put, stored}
use Rattle.mw_protocol.specs.Storing.{is_kept, storing}
use Rattle.mw_laws.specs.Stored.{value_in, spares, asks_nothing, sets_nothing, KeysStay}
use Rattle.mw_laws.specs.Turns.{Turn, happens, takes, after, after_all, now}
use Rattle.mw_laws.proofs.Journal.{standing-append}
use Rattle.mw_laws.proofs.Journals.{next_journal, next_seed}
use Rattle.mw_laws.proofs.Lists.{passed-weaker}
use Rattle.mw_laws.proofs.Recording.{is_free, packet_records, parting_records}

-- ---- values

pub put_same : (key : List ℕ) (value : Json) (kept : List Kept) → value_of key (put key value kept) ≡ Some value
put_same key value [] = cond-true (bytes_eq key key) (Some value) None ((bytes_eq-Decides key key).1 refl)
put_same key value (k ∷ ks) =
    elim (bytes_eq key k.key) as (λ b. bytes_eq key k.key ≡ b → value_of key (cond b (record { key = k.key; value = value } ∷ ks) (k ∷ put key value ks)) ≡ Some value) [
      | true ↦ λ is. cond-true (bytes_eq key k.key) (Some value) (value_of key ks) is
      | false ↦ λ other. cond-false (bytes_eq key k.key) (Some k.value) (value_of key (put key value ks)) other ∙ put_same key value ks
    ] refl

put_other : (key other : List ℕ) (value : Json) (kept : List Kept) → bytes_eq key other ≡ false → value_of key (put other value kept) ≡ value_of key kept
put_other key other value [] apart = cond-false (bytes_eq key other) (Some value) None apart
put_other key other value (k ∷ ks) apart =
    elim (bytes_eq other k.key) as (λ b. bytes_eq other k.key ≡ b → value_of key (cond b (record { key = k.key; value = value } ∷ ks) (k ∷ put other value ks)) ≡ value_of key (k ∷ ks)) [
      | true ↦ λ is.
          let differs : bytes_eq key k.key ≡ false = ap (bytes_eq key) (sym ((bytes_eq-Decides other k.key).0 is)) ∙ apart in
          cond-false (bytes_eq key k.key) (Some value) (value_of key ks) differs ∙ sym (cond-false (bytes_eq key k.key) (Some k.value) (value_of key ks) differs)
      | false ↦ λ _. ap (cond (bytes_eq key k.key) (Some k.value)) (put_other key other value ks apart)
    ] refl

-- ---- a key that nobody sets

stored_other : (key : List ℕ) (r : Record) (kept : List Kept) → spares key r ≡ true → value_of key (stored kept r) ≡ value_of key kept
stored_other key (store other value) kept h = put_other key other value kept (not-true (bytes_eq key other) h)
stored_other key (checks team slot locations) kept h = refl
stored_other key (release team slot) kept h = refl
stored_other key (collect team slot) kept h = refl
stored_other key (status team slot number) kept h = refl
stored_other key (hint g) kept h = refl
stored_other key (hint_status team finder location number) kept h = refl

pub steps_other : (key : List ℕ) (seed : Seed) (s : Standing) (rs : List Record) → list_all (spares key) rs ≡ true → value_of key (steps seed s rs).storage ≡ value_of key s.storage
steps_other key seed s [] h = refl
steps_other key seed s (r ∷ rs) h =
    let parts = and_parts (spares key r) (list_all (spares key) rs) h in
    steps_other key seed (step seed s r) rs parts.1 ∙ stored_other key r s.storage parts.0

key_stays : (seed : Seed) (journal more : List Record) (key : List ℕ) → IsTrue (list_all (spares key) more) → value_in seed (journal ++ more) key ≡ value_in seed journal key
key_stays seed journal more key h = ap (λ s. value_of key s.storage) (standing-append seed journal more) ∙ steps_other key seed (standing seed journal) more h

free_spares : (key : List ℕ) (r : Record) → is_free r ≡ true → spares key r ≡ true
free_spares key (store other value) h = absurd (false≢true h)
free_spares key (checks team slot locations) h = refl
free_spares key (release team slot) h = refl
free_spares key (collect team slot) h = refl
free_spares key (status team slot number) h = refl
free_spares key (hint g) h = refl
free_spares key (hint_status team finder location number) h = refl

-- none of the records is stored under the key
abbrev Spared : List ℕ → List Record → Type 0
Spared key rs = list_all (spares key) rs ≡ true

store_spared : (key : List ℕ) (s : Standing) (m : Member) (set : SetPacket) (done : Result Changed Refused) → not (bytes_eq key set.key) ≡ true → Spared key (storing s m set done).records
store_spared key s m set (Err r) h = refl
store_spared key s m set (Ok c) h =
    cond_both (is_kept c.new (value_of set.key s.storage)) [] (store set.key c.new ∷ []) (Spared key) (λ _. refl) (λ _. ap (λ b. b && true) h)

recorded_spared : (key : List ℕ) (room : Room) (event : Event) → sets_nothing key (happens event) ≡ true → Spared key (effect_in room event).records
recorded_spared key room (opened time) h = refl
recorded_spared key room (sent number packet) h =
    packet_records room.seed (now room) (Spared key) (passed-weaker (spares key) is_free (free_spares key)) (λ m at left. refl)
    (members_in room.sessions) (member_in room.sessions number) packet
    (λ m set is. store_spared key (now room) m set _ (ap (asks_nothing key) (sym is) ∙ h))
recorded_spared key room (failed number bad) h = refl
recorded_spared key room (lost number) h =
    parting_records room.seed (now room) (Spared key) (passed-weaker (spares key) is_free (free_spares key)) (λ m at left. refl) (member_in room.sessions number)

turn_stays : (key : List ℕ) (room : Room) (turn : Turn) → sets_nothing key turn ≡ true → value_of key (now (after room turn)).storage ≡ value_of key (now room).storage
turn_stays key room (takes number) h = refl
turn_stays key room (happens event) h =
    ap₂ (λ seed journal. value_in seed journal key) (next_seed room event) (next_journal room event)
    ∙ key_stays room.seed room.journal (effect_in room event).records key (recorded_spared key room event h)

pub turns_stay : (room : Room) (turns : List Turn) (key : List ℕ) → IsTrue (list_all (sets_nothing key) turns) → value_of key (now (after_all room turns)).storage ≡ value_of key (now room).storage
turns_stay room [] key h = refl
turns_stay room (t ∷ ts) key h =
    let parts = and_parts (sets_nothing key t) (list_all (sets_nothing key) ts) h in
    turns_stay (after room t) ts key parts.1 ∙ turn_stays key room t parts.0

pub keys_stay : KeysStay
keys_stay = record { journals = key_stays; turns = turns_stay }
