-- For proofs alone: what the lists of a try keep.
use Rattle.std.specs.Prelude.{◌≤◌, All, length}
use Rattle.mw_multi.specs.Joint.{Joint}
use Rattle.mw_fill.specs.Copies.{all_numbers}
use Rattle.mw_fill.specs.Kept.{CopyKept, OpeningKept}
use Rattle.mw_fill.specs.Try.{Lists}

-- the copies and the locations are the joint's
pub record AreKept (joint : Joint) (lists : Lists) : Type 0 where
  pub asked : All (CopyKept joint) lists.asked
  pub few : length lists.asked ≤ 10240000
  pub few_numbers : length (all_numbers joint lists.asked) ≤ 10240000
  pub openings : All (OpeningKept joint) lists.openings
  pub helping : All (CopyKept joint) lists.helping
  pub filling : All (CopyKept joint) lists.filling

-- none has more entries than the pools may have copies
pub record AreShort (lists : Lists) : Type 0 where
  pub asked : length lists.asked ≤ 10240000
  pub openings : length lists.openings ≤ 10240000
  pub helping : length lists.helping ≤ 10240000
  pub filling : length lists.filling ≤ 10240000
