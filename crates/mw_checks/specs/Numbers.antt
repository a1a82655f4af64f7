-- The locations of a seed by number.
use Rattle.std.specs.Prelude.{◌≡◌, ℕ, ℤ, pos, ◌≤ℤ◌, ◌<ℤ◌, ◌^◌, ◌+◌, ◌==◌, ◌&&◌, List, [], ◌∷◌, Option, Some, None, if◌then◌else◌}
use Rattle.std.specs.Ordering.{int_eq}
use Rattle.indexmap.specs.IndexMap.{IndexMap, get_by}
use Rattle.mw_model.specs.Seed.{Seed, Held}

-- where a location of a slot stands among these, which are counted from n
abbrev pub number_among : ℕ → List Held → ℕ → ℤ → Option ℕ
number_among n [] slot location = None
number_among n (h ∷ hs) slot location =
    if (h.slot == slot) && int_eq h.location location then Some n
    else number_among (n + 1) hs slot location

-- the number of a location of a slot
abbrev pub number_of : Seed → ℕ → ℤ → Option ℕ
number_of seed slot location = number_among 0 seed.locations slot location

-- the index has the number of each of the locations that are counted from n
abbrev pub IsIndexFrom : {S : Type 0} → ℕ → List Held → IndexMap (ℕ × ℤ) ℕ S → Type 0
IsIndexFrom n hs index =
    (slot : ℕ) (location : ℤ)
    → get_by (λ k. (slot == k.0) && int_eq location k.1) index ≡ number_among n hs slot location

abbrev pub IsIndex : {S : Type 0} → List Held → IndexMap (ℕ × ℤ) ℕ S → Type 0
IsIndex hs index = IsIndexFrom 0 hs index

-- each location is from 1 to 2^53 - 1
abbrev pub AllIds : List Held → Type 0
AllIds [] = Unit {0}
AllIds (h ∷ hs) = ((pos 1 ≤ℤ h.location) × (h.location <ℤ pos (2 ^ 53))) × AllIds hs
