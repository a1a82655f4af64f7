-- Tables whose places fit their numbers.
use Rattle.std.specs.Prelude.{◌≤◌, length}
use Rattle.mw_tables.specs.Raw.{RawWorld}

-- at most 10,000 rows in each table
pub record IsSmall (w : RawWorld) : Type 0 where
  pub regions : length w.regions ≤ 10000
  pub items : length w.items ≤ 10000
  pub entrances : length w.entrances ≤ 10000
  pub locations : length w.locations ≤ 10000
