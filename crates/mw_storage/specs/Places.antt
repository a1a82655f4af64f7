-- Where a member of a name stands among others.
use Rattle.std.specs.Prelude.{ℕ, ◌<◌, ◌≤◌, List, [], ◌∷◌, length, take, drop}
use Rattle.mw_model.specs.Json.{Json, Members, no_members, member}
use Rattle.mw_json.specs.View.{member_view, members_view}
use Rattle.mw_json.specs.declared.tree.Member.{Member}
use Rattle.mw_storage.specs.declared.objects.Place.{Place}
use Rattle.mw_storage.specs.declared.objects.Place.TheVariants.{At, Before}

-- members before others
abbrev pub in_front : List Member → Members → Members
in_front [] ms = ms
in_front (m ∷ ns) ms = member (member_view m).0 (member_view m).1 (in_front ns ms)

abbrev pub with_first_value : Json → Members → Members
with_first_value j no_members = no_members
with_first_value j (member k old ms) = member k j ms

-- the member at a place with this value, or a new one before it
abbrev pub set_at : List Member → Place → List ℕ → Json → Members
set_at ms (At i) name j = in_front (take i ms) (with_first_value j (members_view (drop i ms)))
set_at ms (Before i) name j = in_front (take i ms) (member name j (members_view (drop i ms)))

abbrev pub IsPlace : List Member → Place → Type 0
IsPlace ms (At i) = i < length ms
IsPlace ms (Before i) = i ≤ length ms
