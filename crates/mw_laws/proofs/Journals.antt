-- The journal of a room grows, and so do the views.
use mathlib.Core.List.{IsPrefix}
use Rattle.std.proofs.Common.{◌≡◌, ℕ, List, ◌∷◌, [], ◌++◌, refl, sym, ap, ◌∙◌, append_assoc, append-nil}
use Rattle.mw_model.specs.Seed.{Seed}
use Rattle.mw_protocol.specs.Asked.{view}
use Rattle.mw_protocol.specs.Records.{Record}
use Rattle.mw_protocol.specs.Rooms.{Room, Event, opened, sent, failed, lost, effect_in, next, empty_room}
use Rattle.mw_laws.specs.Journals.{JournalsGrow}
use Rattle.mw_laws.specs.Turns.{Turn, happens, takes, after, after_all, room_after}
use Rattle.mw_laws.specs.Views.{ViewsGrow}
use Rattle.mw_laws.proofs.Journal.{view-append}

-- an event records what its effect does
pub next_journal : (room : Room) (event : Event) → (next room event).journal ≡ room.journal ++ (effect_in room event).records
next_journal room (opened time) = sym (append-nil room.journal)
next_journal room (sent number packet) = refl
next_journal room (failed number bad) = refl
next_journal room (lost number) = refl

pub next_seed : (room : Room) (event : Event) → (next room event).seed ≡ room.seed
next_seed room (opened time) = refl
next_seed room (sent number packet) = refl
next_seed room (failed number bad) = refl
next_seed room (lost number) = refl

pub all_seed : (room : Room) (turns : List Turn) → (after_all room turns).seed ≡ room.seed
all_seed room [] = refl
all_seed room (takes number ∷ ts) = all_seed (after room (takes number)) ts
all_seed room (happens event ∷ ts) = all_seed (next room event) ts ∙ next_seed room event

-- what a turn records
abbrev pub recorded : Room → Turn → List Record
recorded room (happens event) = (effect_in room event).records
recorded room (takes number) = []

pub after_journal : (room : Room) (turn : Turn) → (after room turn).journal ≡ room.journal ++ recorded room turn
after_journal room (happens event) = next_journal room event
after_journal room (takes number) = sym (append-nil room.journal)

abbrev pub recorded_all : Room → List Turn → List Record
recorded_all room [] = []
recorded_all room (t ∷ ts) = recorded room t ++ recorded_all (after room t) ts

pub all_journal : (room : Room) (turns : List Turn) → (after_all room turns).journal ≡ room.journal ++ recorded_all room turns
all_journal room [] = sym (append-nil room.journal)
all_journal room (t ∷ ts) =
    all_journal (after room t) ts ∙ ap (λ j. j ++ recorded_all (after room t) ts) (after_journal room t) ∙ append_assoc room.journal (recorded room t) (recorded_all (after room t) ts)

pub all-append : (room : Room) (turns more : List Turn) → after_all room (turns ++ more) ≡ after_all (after_all room turns) more
all-append room [] more = refl
all-append room (t ∷ ts) more = all-append (after room t) ts more

-- what later turns record
pub later_journal : (seed : Seed) (turns more : List Turn)
    → (room_after seed (turns ++ more)).journal ≡ (room_after seed turns).journal ++ recorded_all (room_after seed turns) more
later_journal seed turns more = ap (λ room. room.journal) (all-append (empty_room seed) turns more) ∙ all_journal (room_after seed turns) more

-- ---- views

journal_views : (seed : Seed) (mask team slot : ℕ) (journal more : List Record) → IsPrefix (view seed mask team slot journal) (view seed mask team slot (journal ++ more))
journal_views seed mask team slot journal more = (_, sym (view-append seed mask team slot journal more))

turn_views : (seed : Seed) (mask team slot : ℕ) (turns more : List Turn)
    → IsPrefix (view seed mask team slot (room_after seed turns).journal) (view seed mask team slot (room_after seed (turns ++ more)).journal)
turn_views seed mask team slot turns more =
    let before = (room_after seed turns).journal in
    let grown = journal_views seed mask team slot before (recorded_all (room_after seed turns) more) in
    (grown.0, grown.1 ∙ ap (view seed mask team slot) (sym (later_journal seed turns more)))

pub views_grow : ViewsGrow
views_grow = record { journals = journal_views; turns = turn_views }

pub journals_grow : JournalsGrow
journals_grow = record {
  seed = λ seed turns. all_seed (empty_room seed) turns;
  grows = λ seed turns more. (recorded_all (room_after seed turns) more, sym (later_journal seed turns more));
}
