-- Records that name only what a seed has.
use Rattle.std.specs.Prelude.{ℕ, ℤ, ◌&&◌, ◌∷◌, [], List, Bool, true, nat_lt, is_some}
use Rattle.mw_model.specs.Seed.{Seed, slot_of, held_at}
use Rattle.mw_protocol.specs.Records.{Record, checks, release, collect, status, hint, hint_status, store}

-- a slot of a team
abbrev pub has_player : Seed → ℕ → ℕ → Bool
has_player seed team slot = nat_lt team seed.teams && is_some (slot_of seed slot)

-- a location of a slot of a team
abbrev pub has_location : Seed → ℕ → ℕ → ℤ → Bool
has_location seed team slot location =
    has_player seed team slot && is_some (held_at seed slot location)

abbrev pub has_locations : Seed → ℕ → List ℤ → Bool
has_locations seed slot [] = true
has_locations seed slot (l ∷ ls) = is_some (held_at seed slot l) && has_locations seed slot ls

-- its team, its slots and its locations are the seed's; a key and its value name nothing
abbrev pub is_named : Seed → Record → Bool
is_named seed (checks team slot locations) =
    has_player seed team slot && has_locations seed slot locations
is_named seed (release team slot) = has_player seed team slot
is_named seed (collect team slot) = has_player seed team slot
is_named seed (status team slot number) = has_player seed team slot
is_named seed (hint h) =
    has_location seed h.team h.finder h.location && is_some (slot_of seed h.buyer)
is_named seed (hint_status team finder location number) = has_location seed team finder location
is_named seed (store key value) = true

abbrev pub are_named : Seed → List Record → Bool
are_named seed [] = true
are_named seed (r ∷ rs) = is_named seed r && are_named seed rs
