-- What `switch` answers.
use Rattle.std.specs.Prelude.{◌≡◌, ◌<◌, ◌^◌, ◌+◌, ℕ, List, Option, Some}
use Rattle.mw_journal.specs.Image.{StandsAt}
use Rattle.mw_journal.specs.Refused.{IsNotJournal, IsOtherSeed}
use Rattle.mw_checkpoint.specs.declared.error.PairError.{PairError}
use Rattle.mw_checkpoint.specs.declared.error.PairError.TheVariants.{DiskFault, NotEmpty, NotJournal, OtherSeed, BadChoice, BadRecord, ChoiceFull, Memory}

-- a file that tells its bytes stands for a text, and has this length with one more byte appended
abbrev pub IsLength : Option (List ℕ) → List ℕ → ℕ → Type 0
IsLength told digest len = (f : List ℕ) → told ≡ Some f
    → (text : List ℕ) × (place : ℕ) × StandsAt f digest text place × (len ≡ place + 7)

-- each error of `switch`, where CHOICE tells its bytes or nothing, and the count of its disk before
-- and after
abbrev pub RefusesSwitch : Option (List ℕ) → List ℕ → ℕ → ℕ → PairError → Type 0
RefusesSwitch told digest before after (DiskFault place) = (place ≡ 0) × (before < after)
RefusesSwitch told digest before after (NotEmpty place) = ⊥
RefusesSwitch told digest before after (NotJournal place at) =
    (place ≡ 0) × ((f : List ℕ) → told ≡ Some f → IsNotJournal f digest at)
RefusesSwitch told digest before after (OtherSeed place found) =
    (place ≡ 0) × ((f : List ℕ) → told ≡ Some f → IsOtherSeed f digest found)
RefusesSwitch told digest before after (BadChoice at) = ⊥
RefusesSwitch told digest before after (BadRecord at) = ⊥
RefusesSwitch told digest before after (ChoiceFull len) =
    (2 ^ 30 < len) × IsLength told digest len
RefusesSwitch told digest before after Memory = Unit {0}

-- an error that isn't about the bytes, or that there is no room for more
abbrev pub IsOutsideOrFull : PairError → Type 0
IsOutsideOrFull (DiskFault place) = Unit {0}
IsOutsideOrFull (NotEmpty place) = ⊥
IsOutsideOrFull (NotJournal place at) = ⊥
IsOutsideOrFull (OtherSeed place found) = ⊥
IsOutsideOrFull (BadChoice at) = ⊥
IsOutsideOrFull (BadRecord at) = ⊥
IsOutsideOrFull (ChoiceFull len) = Unit {0}
IsOutsideOrFull Memory = Unit {0}
