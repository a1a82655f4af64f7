-- What the bytes of CHOICE name.
use Rattle.std.specs.Prelude.{◌<◌, ◌≤◌, ℕ, ◌-◌, List, length, take, slice_index}
use Rattle.std.specs.List.{AllByRecursion}
use Rattle.mw_journal.specs.Image.{Stands}

-- 0 or 1
abbrev pub IsChoice : ℕ → Type 0
IsChoice byte = byte < 2

abbrev pub AreChoices : List ℕ → Type 0
AreChoices text = AllByRecursion IsChoice text

-- the last byte, or 0 where there is none
abbrev pub named_in : List ℕ → ℕ
named_in text = slice_index text (length text - 1)

-- the first byte that is neither 0 nor 1 stands at a place
pub record IsBadByte (text : List ℕ) (at : ℕ) : Type 0 where
  pub within : at < length text
  pub before : AreChoices (take at text)
  pub bad : 2 ≤ slice_index text at

-- an image stands for a text whose first byte that is neither 0 nor 1 stands at a place
abbrev pub IsBadChoice : List ℕ → List ℕ → ℕ → Type 0
IsBadChoice image digest at =
    (text : List ℕ) × Stands image digest text × IsBadByte text at
