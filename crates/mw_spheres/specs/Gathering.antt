-- For proofs alone: locations taken into a sphere one after the other.
use Rattle.std.specs.Prelude.{◌≡◌, ℕ, ◌+◌, ◌<◌, ◌≤◌, ◌^◌, ◌||◌, List, Bool, filter, length}
use Rattle.mw_model.specs.Seed.{Spot}
use Rattle.mw_rules.specs.Holds.{Places, bag_of, places_of}
use Rattle.mw_multi.specs.Joint.{Slot, Joint}
use Rattle.mw_reach.specs.Reach.{Placed, times_in, found}
use Rattle.mw_reach.specs.Counts.{LiesWithin, outside, missing}
use Rattle.mw_spheres.specs.Spots.{is_listed, items_at}
use Rattle.mw_spheres.specs.Spheres.{hand_of, is_due}

-- no count gets too large, however many of the other places are taken
pub record BagFits (table : Placed) (taken : List Bool) (bag : List ℕ) : Type 0 where
  pub size : length taken ≡ length table
  pub items : LiesWithin (length bag) table
  pub room : (i : ℕ) → bag_of bag i + found table (outside taken) i < 2 ^ 31

-- of these locations, whose places are below this bound, those that are due were found and taken
pub record Gathered (slots : List Slot) (table : Placed) (w : Places) (first : List Bool)
    (start : List ℕ) (spots : List Spot) (bound : ℕ) (taken : List Bool) (bag : List ℕ)
    (found : List Spot) : Type 0 where
  pub due : found ≡ filter (is_due slots table w (places_of first)) spots
  pub flags : (p : ℕ) → places_of taken p ≡ (places_of first p || is_listed slots found p)
  pub later : (p : ℕ) → bound ≤ p → places_of taken p ≡ places_of first p
  pub counts : (i : ℕ) → bag_of bag i ≡ bag_of start i + times_in i (items_at slots table found)
  pub fewer : missing taken + length found ≡ missing first

-- what is in hand and taken after these locations
pub record IsInHand (joint : Joint) (table : Placed) (earlier : List Spot) (taken : List Bool)
    (bag : List ℕ) : Type 0 where
  pub flags : (p : ℕ) → places_of taken p ≡ is_listed joint.slots earlier p
  pub counts : (i : ℕ) → bag_of bag i ≡ hand_of joint table earlier i
