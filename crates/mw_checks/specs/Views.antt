-- Items as a session's handling lets them through, and the tail of them from a place on.
use Rattle.std.specs.Prelude.{◌≡◌, ℕ, ℤ, ◌++◌, ◌∷◌, [], List, Option, Some, None, drop, filter, if◌then◌else◌}
use Rattle.mw_model.specs.Items.{NetItem}
use Rattle.mw_model.specs.Seed.{Seed, Held, held_at, is_owner}
use Rattle.mw_protocol.specs.Checks.{found_item, keeps}
use Rattle.mw_checks.specs.declared.handling.Handling.{Handling}
use Rattle.mw_checks.specs.declared.tail.Tail.{Tail}

-- those that are asked for
abbrev pub asked_of : Handling → List NetItem → List NetItem
asked_of handling items = filter (keeps handling.mask handling.slot) items

-- the item that stands at a location, where the slot receives it
abbrev pub given_at : Seed → ℕ → Option Held → List NetItem
given_at seed slot None = []
given_at seed slot (Some h) = if is_owner seed h.receiver slot then found_item h ∷ [] else []

-- the items of locations that the slot receives
abbrev pub given_to : Seed → ℕ → List (ℕ × ℤ) → List NetItem
given_to seed slot [] = []
given_to seed slot (p ∷ ps) = given_at seed slot (held_at seed p.0 p.1) ++ given_to seed slot ps

-- what a tail holds once it is offered these items
abbrev pub tail_of : Handling → Tail → List NetItem → List NetItem
tail_of handling tail items = tail.items ++ drop tail.skip (asked_of handling items)

-- the tail was offered some items: it then makes of any others what it made before of those and these
abbrev pub Takes : Handling → Tail → Tail → List NetItem → Type 0
Takes handling old new offered =
    (others : List NetItem) → tail_of handling new others ≡ tail_of handling old (offered ++ others)
