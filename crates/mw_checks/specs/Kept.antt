-- What the flags and the rows of a log keep.
use Rattle.std.specs.Prelude.{◌≡◌, ◌<◌, ℕ, List, map, length}
use Rattle.mw_model.specs.Seed.{Seed, Held}
use Rattle.mw_protocol.specs.Checks.{Check, found_item, items_found, locations_in}
use Rattle.mw_checks.specs.Log.{Log}
use Rattle.mw_checks.specs.Rows.{HasPlace, HavePlaces, Keeps, location_of, receivers_of, seat, standing}
use Rattle.mw_checks.specs.declared.rows.Rows.{Rows}

-- they keep these checks
abbrev pub KeptIn : Seed → List Check → Rows → Type 0
KeptIn seed checked rows = Keeps seed checked rows.done.items rows.received.items rows.found.items

-- what stands at a number has its flag, and room in its receivers' and its finder's rows
pub record HasPlaces (rows : Rows) (seed : Seed) (team number : ℕ) (held : Held) : Type 0 where
  pub flag : seat number team < length rows.done.items
  pub received : HavePlaces (receivers_of seed held) team rows.received.items
  pub found : HasPlace rows.found.items (seat held.slot team)

-- the numbers of what a slot received in a team
abbrev pub AreReceived : Log → ℕ → ℕ → List ℕ → Type 0
AreReceived log team slot numbers =
    map found_item (standing log.seed.locations numbers)
    ≡ items_found log.seed team slot log.checked

-- the numbers of a slot's checked locations in a team
abbrev pub AreFound : Log → ℕ → ℕ → List ℕ → Type 0
AreFound log team slot numbers =
    map location_of (standing log.seed.locations numbers) ≡ locations_in team slot log.checked
