-- The playthrough: the entries of the spheres that the goals need.
use Rattle.std.specs.Prelude.{◌≡◌, ℕ, List, [], ◌∷◌, Option, Some, None, Bool, ◌&&◌, not, false, All, filter, length, map, nat_eq, slice_set, if◌then◌else◌}
use Rattle.std.specs.List.{range_with_len}
use Rattle.mw_model.specs.Seed.{Spot}
use Rattle.mw_rules.specs.Holds.{places_of}
use Rattle.mw_multi.specs.Joint.{Slot, Joint, place_total}
use Rattle.mw_multi.specs.Placement.{Put, numbers_at}
use Rattle.mw_reach.specs.Reach.{Placed}
use Rattle.mw_reach.specs.Goals.{MeetsGoals}
use Rattle.mw_spheres.specs.Spots.{spot_place, is_listed, placement_table}
use Rattle.mw_spheres.specs.Spheres.{listed}
use Rattle.mw_spheres.specs.Unmet.{IsFirstUnmet}

-- what stands at a place, where it is kept
abbrev pub only_at : List Bool → Placed → ℕ → List ℕ
only_at kept table p = if places_of kept p then numbers_at table p else []

-- what stands at the kept places alone
abbrev pub only : List Bool → Placed → Placed
only kept table = map (only_at kept table) (range_with_len 0 (length table))

-- a place is kept where a goal is unmet without it
abbrev pub after : Option ℕ → List Bool → ℕ → List Bool
after None kept p = slice_set kept p false
after (Some slot) kept p = kept

-- the place is dropped where each goal holds with what stands at the other kept places as the whole placement
pub record IsAsked (joint : Joint) (table : Placed) (p : ℕ) (before kept : List Bool) : Type 0 where
  pub slot : Option ℕ
  pub unmet : IsFirstUnmet joint (only (slice_set before p false) table) slot
  pub is : kept ≡ after slot before p

-- the places are asked from the last to the first
abbrev pub IsThinned : Joint → Placed → List ℕ → List Bool → List Bool → Type 0
IsThinned joint table [] first kept = kept ≡ first
IsThinned joint table (p ∷ places) first kept =
    (later : List Bool) × IsThinned joint table places first later
    × IsAsked joint table p later kept

-- the location is kept
abbrev pub is_kept : List Slot → List Bool → Spot → Bool
is_kept slots kept spot = places_of kept (spot_place slots spot)

-- the entries of the spheres that are kept when they are asked from the last to the first, each in its sphere
pub record IsPlaythrough (joint : Joint) (puts : List Put)
    (spheres played : List (List Spot)) : Type 0 where
  pub first : List Bool
  pub size : length first ≡ place_total joint.slots
  pub entries : (p : ℕ) → places_of first p ≡ is_listed joint.slots (listed spheres) p
  pub kept : List Bool
  pub thinned : IsThinned joint (placement_table joint puts)
      (map (spot_place joint.slots) (listed spheres)) first kept
  pub is : played ≡ map (filter (is_kept joint.slots kept)) spheres

-- ---- nothing to spare

-- what stands at one of these entries other than the one at a place
abbrev pub other_at : List Slot → Placed → List Spot → ℕ → ℕ → List ℕ
other_at slots table entries place p =
    if is_listed slots entries p && not (nat_eq p place) then numbers_at table p else []

-- what stands at these entries, but for the one at a place, as the whole placement
abbrev pub others : List Slot → Placed → List Spot → ℕ → Placed
others slots table entries place =
    map (other_at slots table entries place) (range_with_len 0 (length table))

-- without any one of the entries the others alone leave a goal unmet
abbrev pub NoneToSpare : Joint → List Put → List (List Spot) → Type 0
NoneToSpare joint puts played =
    All (λ spot. MeetsGoals joint
    (others joint.slots (placement_table joint puts) (listed played) (spot_place joint.slots spot))
    → ⊥) (listed played)
