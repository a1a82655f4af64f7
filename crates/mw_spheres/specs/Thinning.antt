-- For proofs alone: what is shown of a placement while its entries are asked.
use Rattle.std.specs.Prelude.{◌≡◌, ℕ, ◌&&◌, ◌⊎◌, List, [], Bool, false, not, if◌then◌else◌}
use Rattle.mw_rules.specs.Names.{is_among}
use Rattle.mw_rules.specs.Holds.{places_of}
use Rattle.mw_multi.specs.Placement.{numbers_at}
use Rattle.mw_reach.specs.Reach.{Placed}

-- each place has what it has in the other table, or nothing
abbrev pub HasFewer : Placed → Placed → Type 0
HasFewer table other =
    (p : ℕ) → (numbers_at table p ≡ []) ⊎ (numbers_at table p ≡ numbers_at other p)

-- at those of these places that are shown the table has what the full one has, elsewhere what it had
abbrev pub IsPutIn : Placed → List ℕ → List Bool → Placed → Placed → Type 0
IsPutIn full places shown before table =
    (p : ℕ) → numbers_at table p
    ≡ (if is_among places p && places_of shown p then numbers_at full p else numbers_at before p)

-- a place is shown where it is kept and isn't among these
abbrev pub AreShown : List Bool → List Bool → List ℕ → Type 0
AreShown kept shown places =
    (p : ℕ) → places_of shown p ≡ (places_of kept p && not (is_among places p))

-- the flags are the same at all other places
abbrev pub AreSameBut : List ℕ → List Bool → List Bool → Type 0
AreSameBut places flags other =
    (p : ℕ) → is_among places p ≡ false → places_of other p ≡ places_of flags p
