-- What checks, scouts, and a hint's new status do.
use Rattle.std.specs.Prelude.{ℕ, ℤ, pos, ◌==◌, ◌++◌, ◌∷◌, [], List, Option, Some, None, false, map, if◌then◌else◌}
use Rattle.mw_model.specs.Seed.{Seed, Held, held_at}
use Rattle.mw_protocol.specs.Checks.{Check, found_item}
use Rattle.mw_protocol.specs.Connecting.{Member}
use Rattle.mw_protocol.specs.Effect.{Effect, recording}
use Rattle.mw_protocol.specs.Entering.{to_team}
use Rattle.mw_protocol.specs.Heard.{Announced, slots_hear}
use Rattle.mw_protocol.specs.HintList.{hint_at, hinted_all}
use Rattle.mw_protocol.specs.Hints.{marks, scouted_for}
use Rattle.mw_protocol.specs.Locations.{location_of, known_checks, new_checks, scouted}
use Rattle.mw_protocol.specs.Messages.{location_info}
use Rattle.mw_protocol.specs.Packets.{UpdateHint}
use Rattle.mw_protocol.specs.Prints.{printed, item_send, hint_print}
use Rattle.mw_protocol.specs.Records.{Record, Hint, checks, hint, hint_status}
use Rattle.mw_protocol.specs.Standing.{Standing, is_checked}

-- ---- checks

-- none make no record
abbrev pub checks_record : ℕ → ℕ → List ℤ → List Record
checks_record team slot [] = []
checks_record team slot (l ∷ ls) = checks team slot (l ∷ ls) ∷ []

-- a team is told of what was found at a location
abbrev pub sent_at : ℕ → Option Held → List Announced
sent_at team None = []
sent_at team (Some h) = to_team team (item_send (found_item h) h.receiver) ∷ []

-- of what was found at each
abbrev pub sends : Seed → List Check → List Announced
sends seed [] = []
sends seed (c ∷ cs) = sent_at c.team (held_at seed c.slot c.location) ++ sends seed cs

abbrev pub checking : Seed → Standing → Member → List ℤ → Effect
checking seed now m numbers =
    let new = new_checks seed now.checked m.team m.slot numbers in
    recording (checks_record m.team m.slot (map location_of new)) (sends seed new)

-- ---- hints that are told

-- those who find what a hint is of, or receive it, are told
abbrev pub hint_told : Standing → Hint → Option Held → List Announced
hint_told now h None = []
hint_told now h (Some at) =
    record {
      audience = slots_hear h.team h.finder at.receiver;
      packet = printed
          (hint_print (found_item at) at.receiver (is_checked now h.team h.finder h.location));
    } ∷ []

abbrev pub hints_told : Seed → Standing → List Hint → List Announced
hints_told seed now [] = []
hints_told seed now (h ∷ hs) =
    hint_told now h (held_at seed h.finder h.location) ++ hints_told seed now hs

-- ---- scouts

-- a scouting makes hints where it is asked to
abbrev pub hints_scouted : Seed → Standing → Member → List ℤ → ℕ → List Hint
hints_scouted seed now m numbers as_hint =
    if as_hint == 0 then [] else scouted_for seed (is_checked now) now.hints m.team m.slot numbers

abbrev pub hint_list : Option Hint → List Hint
hint_list None = []
hint_list (Some h) = h ∷ []

-- the hints that there are of a slot's locations
abbrev pub hints_at : List Hint → ℕ → ℕ → List Check → List Hint
hints_at hs team slot [] = []
hints_at hs team slot (c ∷ cs) =
    hint_list (hint_at hs team slot c.location) ++ hints_at hs team slot cs

-- with 1 the hints of all scouted locations are told, with 2 those that were just made
abbrev pub scouts_told : Seed → Standing → Member → List ℤ → ℕ → List Hint → List Hint
scouts_told seed now m numbers as_hint new =
    if as_hint == 1
    then hints_at (hinted_all now.hints (map hint new)) m.team m.slot
    (known_checks seed m.team m.slot numbers) else new

abbrev pub scouting : Seed → Standing → Member → List ℤ → ℕ → Effect
scouting seed now m numbers as_hint =
    let new = hints_scouted seed now m numbers as_hint in
    record {
      records = map hint new;
      answers = location_info (scouted seed m.team m.slot numbers) ∷ [];
      whole = false;
      member = None;
      announced = hints_told seed now (scouts_told seed now m numbers as_hint new);
    }

-- ---- a hint's new status

-- no slot has the number 0
abbrev pub slot_number : ℤ → ℕ
slot_number (pos n) = n
slot_number _ = 0

abbrev pub mark_record : Seed → Standing → Member → ℕ → ℤ → Option ℕ → List Record
mark_record seed now m finder location None = []
mark_record seed now m finder location (Some s) =
    if marks seed (is_checked now) now.hints m.team m.slot finder location s
    then hint_status m.team finder location s ∷ [] else []

abbrev pub marking : Seed → Standing → Member → UpdateHint → Effect
marking seed now m u =
    recording (mark_record seed now m (slot_number u.player) u.location u.status) []
