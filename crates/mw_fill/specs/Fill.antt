-- The fill: each copy goes to the first free location that accepts it; one that rules ask for goes
-- where it can be reached with the later ones in hand, or where it may be missed.
use Rattle.std.specs.Prelude.{ℕ, ◌≡◌, ◌+◌, List, [], ◌∷◌, ◌++◌, Option, Some, None, Bool, true, false, ◌&&◌, ◌||◌, MatchOption, find, is_none}
use Rattle.mw_rules.specs.Holds.{Bag, Places}
use Rattle.std.specs.List.{list_all}
use Rattle.mw_multi.specs.Joint.{Slot, Joint, slot_at}
use Rattle.mw_multi.specs.declared.access.Access.{Access}
use Rattle.mw_multi.specs.declared.access.Access.TheVariants.{Full, Items, Minimal}
use Rattle.mw_multi.specs.Bags.{start_count}
use Rattle.mw_multi.specs.Steps.{steps_of}
use Rattle.mw_multi.specs.Placement.{Put, owners, what_stands, IsPlaced}
use Rattle.mw_multi.specs.Events.{events_of}
use Rattle.mw_reach.specs.Reach.{bag_with, IsLeast}
use Rattle.mw_reach.specs.Required.{is_required}
use Rattle.mw_fill.specs.Copies.{ItemCopy, copies_count}
use Rattle.mw_fill.specs.Openings.{Opening, accepts}

-- nothing stands at the location
abbrev pub is_free : List Put → Opening → Bool
is_free puts opening = is_none (what_stands puts opening.place)

abbrev pub is_fit : (Opening → Bool) → List Put → Opening → Bool
is_fit test puts opening = is_free puts opening && test opening

-- the first free one of these locations that passes the test
abbrev pub first_fit : (Opening → Bool) → List Put → List Opening → Option Opening
first_fit test puts openings = find (is_fit test puts) openings

-- the copy at the location
abbrev pub put_of : ItemCopy → Opening → Put
put_of copy opening = record { place = opening.place; receiver = copy.receiver; item = copy.item }

-- what was put in the end, or the first copy that finds no location: its slot and its item
pub data Outcome : Type 0 where
  filled : List Put → Outcome
  stuck : ℕ → ℕ → Outcome

abbrev pub stuck_with : ItemCopy → Outcome
stuck_with copy = stuck copy.receiver copy.item

-- ---- where it can be reached

-- the starting items and these copies, each once for each owner of its receiver
abbrev pub in_hand : Joint → List ItemCopy → Bag
in_hand joint copies n = start_count joint.slots n + copies_count joint copies n

-- it is no more than the goal that is wanted
abbrev pub wants_least : Access → Bool
wants_least Full = false
wants_least Items = false
wants_least Minimal = true

-- the slot wants no more than its goal
abbrev pub is_minimal : Option Slot → Bool
is_minimal None = false
is_minimal (Some s) = wants_least s.access

abbrev pub is_minimal_at : List Slot → ℕ → Bool
is_minimal_at slots number = is_minimal (slot_at slots number)

-- no owner of the copy wants more than its goal
abbrev pub is_missable : Joint → ItemCopy → Bool
is_missable joint copy = list_all (is_minimal_at joint.slots) (owners joint copy.receiver)

-- the location accepts the copy, and it is reached or, where the copy may be missed, of a slot that
-- wants no more than its goal
abbrev pub is_allowed_if : Joint → Bool → Places → ItemCopy → Opening → Bool
is_allowed_if joint missed w copy opening =
    accepts copy opening && (w opening.place || (missed && is_minimal_at joint.slots opening.slot))

-- by the items in hand and found, and by the places reached; a copy may be missed where no owner of
-- it wants more than its goal and what is required holds without it
abbrev pub is_allowed : Joint → Bag → Places → ItemCopy → Opening → Bool
is_allowed joint bag w copy =
    is_allowed_if joint (is_missable joint copy && is_required joint bag w) w copy

-- the run over the copies in order: each by the least list of places for the starting items and the
-- copies after it, with the events and what was put so far
abbrev pub FillRun : Joint → List Opening → List ItemCopy → List Put → Outcome → Type 0
FillRun joint openings [] puts out = out ≡ filled puts
FillRun joint openings (copy ∷ later) puts out =
    (table : List (List ℕ)) × (w : Places) × IsPlaced joint (events_of joint ++ puts) table
    × IsLeast (steps_of joint) (in_hand joint later) table w
    × MatchOption
    (first_fit (is_allowed joint (bag_with (in_hand joint later) table w) w copy) puts openings)
    (out ≡ stuck_with copy)
    (λ opening. FillRun joint openings later (puts ++ put_of copy opening ∷ []) out)

-- ---- anywhere

-- what follows at the location, or stuck
abbrev pub or_stuck : Option Opening → ItemCopy → (Opening → Outcome) → Outcome
or_stuck None copy next = stuck_with copy
or_stuck (Some opening) copy next = next opening

-- each copy in order at the first free location that accepts it
abbrev pub placed_anywhere : List Opening → List ItemCopy → List Put → Outcome
placed_anywhere openings [] puts = filled puts
placed_anywhere openings (copy ∷ later) puts =
    or_stuck (first_fit (accepts copy) puts openings) copy
    (λ opening. placed_anywhere openings later (puts ++ put_of copy opening ∷ []))
