-- How the records of a text are entered, one after another.
use Rattle.std.proofs.Common.{◌≡◌, ◌≤◌, ◌<◌, ◌++◌, ◌∷◌, [], ℕ, List, length, drop, refl, sym, ap, subst, ◌∙◌, arith, append_assoc, length-append, length-drop}
use Rattle.std.proofs.lemmas.List.{append-nil}
use Rattle.mw_model.specs.Seed.{Seed}
use Rattle.mw_protocol.specs.Rooms.{replayed, empty_room}
use Rattle.mw_protocol.specs.Spelled.{record_bytes, records_bytes}
use Rattle.mw_room.specs.Represents.{Represents}
use Rattle.mw_room.specs.declared.room.Room.{Room}
use Rattle.mw_keep.specs.Entered.{IsEntered, HasEntered, RefusesRecord, RefusesText}
use Rattle.mw_keep.specs.declared.error.KeepError.{KeepError}
use Rattle.mw_keep.specs.declared.error.KeepError.TheVariants.{BadSeed, DiskFault, NotJournal, OtherSeed, BadRecord, Memory}
use Rattle.mw_keep.proofs.Appending.{bytes_joined}
use Rattle.mw_keep.proofs.Parsing.{both_sound, one_sound}

pub none_entered : (seed : Seed) (text : List ℕ) (room : Room) → Represents room (empty_room seed) → HasEntered seed text 0 room
none_entered seed text room stands = record {
  journal = [];
  stands = stands;
  sound = record { spelled = tt; named = refl };
  layout = refl;
  place = refl;
}

pub one_more : (seed : Seed) (text : List ℕ) (at next : ℕ) (before after : Room) (h : HasEntered seed text at before)
    → IsEntered (replayed seed h.journal) text at next after → HasEntered seed text next after
one_more seed text at next before after h e =
    let entry = e.entry in
    let one : records_bytes (entry ∷ []) ≡ record_bytes entry = append-nil (record_bytes entry) in
    let joined : records_bytes (h.journal ++ entry ∷ []) ≡ records_bytes h.journal ++ record_bytes entry =
    bytes_joined h.journal (entry ∷ []) ∙ ap (λ l. records_bytes h.journal ++ l) one in record {
      journal = h.journal ++ entry ∷ [];
      stands = e.stands;
      sound = both_sound seed h.journal (entry ∷ []) h.sound (one_sound seed entry e.spells.is_record e.named);
      layout = h.layout ∙ ap (λ l. records_bytes h.journal ++ l) e.spells.here
          ∙ sym (append_assoc (records_bytes h.journal) (record_bytes entry) (drop next text))
          ∙ ap (λ l. l ++ drop next text) (sym joined);
      place = omega (arith, e.spells.ends, h.place, ap length joined, length-append (records_bytes h.journal) (record_bytes entry));
    }

-- the place is within the text
pub within : (seed : Seed) (text : List ℕ) (at : ℕ) (room : Room) → HasEntered seed text at room → at ≤ length text
within seed text at room h =
    omega (arith, h.place, ap length h.layout, length-append (records_bytes h.journal) (drop at text))

pub all_entered : (seed : Seed) (text : List ℕ) (at : ℕ) (room : Room) → HasEntered seed text at room → length text ≤ at
    → HasEntered seed text (length text) room
all_entered seed text at room h end =
    let here : at ≡ length text = omega (arith, end, within seed text at room h) in
    subst (λ n. HasEntered seed text n room) here h

pub bad_here : (seed : Seed) (text : List ℕ) (at : ℕ) (room : Room) (error : KeepError) → HasEntered seed text at room → at < length text
    → RefusesRecord seed text at error → RefusesText seed text error
bad_here seed text at room (BadSeed kind path) h short refuses = refuses
bad_here seed text at room DiskFault h short refuses = refuses
bad_here seed text at room (NotJournal place) h short refuses = refuses
bad_here seed text at room (OtherSeed found) h short refuses = refuses
bad_here seed text at room (BadRecord place) h short refuses = record {
  before = h.journal;
  rest = drop at text;
  layout = h.layout;
  sound = h.sound;
  place = refuses.0 ∙ h.place;
  some = λ none. let nothing : length (drop at text) ≡ 0 = ap length none in absurd (omega (arith, nothing, short, length-drop at text));
  bad = λ r more is here. refuses.1 r record { is_record = is; rest = more; here = here };
}
bad_here seed text at room Memory h short refuses = tt

-- a text whose records are all entered is that of these
pub whole_text : (seed : Seed) (text : List ℕ) (room : Room) (h : HasEntered seed text (length text) room) → text ≡ records_bytes h.journal
whole_text seed text room h = h.layout ∙ ap (λ l. records_bytes h.journal ++ l) (nothing_left text) ∙ append-nil (records_bytes h.journal)
  where
    nothing_left : (xs : List ℕ) → drop (length xs) xs ≡ []
    nothing_left [] = refl
    nothing_left (x ∷ xs) = nothing_left xs
