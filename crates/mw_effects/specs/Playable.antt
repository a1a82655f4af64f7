-- A seed file whose slots, groups and teams have numbers.
use Rattle.std.specs.Prelude.{◌≤◌, ◌+◌, All, length}
use Rattle.mw_model.specs.Seed.{Seed, Slot}

-- a slot has a name in each of at most eight teams
abbrev pub HasFewNames : Slot → Type 0
HasFewNames slot = length slot.names ≤ 8

pub record IsPlayable (seed : Seed) : Type 0 where
  pub few_teams : seed.teams ≤ 8
  pub few_slots : length seed.slots ≤ 1024
  pub few_receivers : length seed.slots + length seed.groups ≤ 1024
  pub few_names : All HasFewNames seed.slots
