-- Records that are entered one after the other.
use Rattle.std.proofs.Common.{◌≡◌, ℕ, suc, ◌+◌, ◌<◌, true, List, [], ◌∷◌, ◌++◌, length, map, take, drop, get_or, sym, ap, ap₂, ◌∙◌, subst, add-one, drop-cons, length-append}
use Rattle.std.proofs.lemmas.Bool.{and_parts}
use Rattle.std.proofs.lemmas.List.{map-append, take_more}
use Rattle.mw_model.specs.Seed.{Seed}
use Rattle.mw_protocol.specs.Named.{are_named, is_named}
use Rattle.mw_protocol.specs.Records.{Record}
use Rattle.mw_protocol.specs.Rooms as plain
use Rattle.mw_protocol.specs.Standing.{Standing}
use Rattle.mw_laws.proofs.Journal.{standing-append}
use Rattle.mw_laws.specs.Told.{recording_more}
use Rattle.mw_records.specs.Records.{record_view}
use Rattle.mw_records.specs.declared.record.Record.{Record as RustRecord}
use Rattle.mw_room.specs.Known.{known, shown}
use Rattle.mw_room.specs.Replayed.{known_more}
use Rattle.mw_room.specs.Represents.{Represents}
use Rattle.mw_room.specs.Views.{room_view}
use Rattle.mw_room.specs.declared.room.Room.{Room}

-- what is kept of a room with a record more
known_recording : (r : plain.Room) (x : Record) → known (recording_more (x ∷ []) r) ≡ known_more (known r) x
known_recording r x =
    ap₂ (λ (now : Standing) (n : ℕ). record { seed = r.seed; now = now; length = n; opened = r.opened; sessions = map shown r.sessions })
    (standing-append r.seed r.journal (x ∷ [])) (length-append r.journal (x ∷ []))

-- the room stands for each plain room that it stood for, with a record more
pub recorded : (old new : Room) (x : Record) (r : plain.Room) → room_view new ≡ known_more (room_view old) x → Represents old r → Represents new (recording_more (x ∷ []) r)
recorded old new x r h st = record { known = h ∙ ap (λ k. known_more k x) st.known ∙ sym (known_recording r x); sound = st.sound }

-- ---- a record more of a list

pub stands_next : (seed : Seed) (new : Room) (rs : List RustRecord) (i : ℕ) (x : RustRecord) → i < length rs → x ≡ get_or rs i x
    → Represents new (recording_more (record_view x ∷ []) (plain.replayed seed (map record_view (take i rs))))
    → Represents new (plain.replayed seed (map record_view (take (i + 1) rs)))
stands_next seed new rs i x within here st =
    let grown : take (i + 1) rs ≡ take i rs ++ x ∷ [] = take_more rs i x within ∙ ap (λ (y : RustRecord). take i rs ++ y ∷ []) (sym here) in
    let viewed : map record_view (take (i + 1) rs) ≡ map record_view (take i rs) ++ record_view x ∷ [] = ap (map record_view) grown ∙ map-append record_view (take i rs) (x ∷ []) in
    subst (λ (js : List Record). Represents new (plain.replayed seed js)) (sym viewed) st

pub named_next : (seed : Seed) (rs : List RustRecord) (i : ℕ) (x : RustRecord) → i < length rs → x ≡ get_or rs i x → are_named seed (map record_view (drop i rs)) ≡ true
    → (is_named seed (record_view x) ≡ true) × (are_named seed (map record_view (drop (i + 1) rs)) ≡ true)
named_next seed rs i x within here named =
    let rest : drop i rs ≡ x ∷ drop (i + 1) rs = drop-cons rs i x within ∙ rw add-one (ap (λ (y : RustRecord). y ∷ drop (suc i) rs) (sym here)) in
    and_parts (is_named seed (record_view x)) (are_named seed (map record_view (drop (i + 1) rs))) (ap (λ (ys : List RustRecord). are_named seed (map record_view ys)) (sym rest) ∙ named)
