-- For proofs alone: what copies and locations of a joint keep, and what is put in the midst of a
-- fill.
use Rattle.std.specs.Prelude.{ℕ, ◌≡◌, ◌<◌, List, Option, None, Bool, true, false, ◌&&◌, All, is_none, is_some, length, slice_index_or}
use Rattle.mw_multi.specs.Joint.{Joint, place_total, item_total}
use Rattle.mw_multi.specs.Placement.{Put, PutKept, AreStanding, site_at, item_at}
use Rattle.mw_multi.specs.Events.{has_no_event}
use Rattle.mw_fill.specs.Copies.{ItemCopy, copy_numbers}
use Rattle.mw_fill.specs.Openings.{Opening}
use Rattle.mw_fill.specs.Try.{or_filler}

-- the item is one of its receiver's world, and its numbers are the joint's
pub record CopyKept (joint : Joint) (copy : ItemCopy) : Type 0 where
  pub item : is_some (item_at joint copy.receiver copy.item) ≡ true
  pub numbers : All (λ n. n < item_total joint.slots) (copy_numbers joint copy)

-- the place is a location of the joint that has no event, and the filler is an item of its slot's
-- world
pub record OpeningKept (joint : Joint) (opening : Opening) : Type 0 where
  pub place : opening.place < place_total joint.slots
  pub location : is_some (site_at joint.slots opening.place) ≡ true
  pub no_event : has_no_event (site_at joint.slots opening.place) ≡ true
  pub filler : is_some (item_at joint opening.slot opening.filler) ≡ true

-- a table with an entry for each place of the joint of what was put, which is kept
pub record IsHeldFor (joint : Joint) (puts : List Put) (held : List (Option Put)) : Type 0 where
  pub size : length held ≡ place_total joint.slots
  pub entries : AreStanding puts held
  pub kept : All (PutKept joint) puts

-- nothing is held at the location, and it passes the test
abbrev pub is_open_in : (Opening → Bool) → List (Option Put) → Opening → Bool
is_open_in test held opening = is_none (slice_index_or held opening.place None) && test opening

-- something is held at each of the first so many locations
abbrev pub AreTaken : List (Option Put) → List Opening → ℕ → Type 0
AreTaken held openings n =
    (k : ℕ) (d : Opening) → k < n → k < length openings
    → is_none (slice_index_or held (slice_index_or openings k d).place None) ≡ false

-- what is held at the location, or else the filler
abbrev pub end_held : List (Option Put) → Opening → Put
end_held held opening = or_filler (slice_index_or held opening.place None) opening
