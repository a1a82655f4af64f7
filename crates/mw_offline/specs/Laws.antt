-- What is true of any two runs.
use Rattle.std.specs.Prelude.{◌≡◌, ℕ, List, Option, Some}
use Rattle.mw_causes.specs.Tables.{Files}
use Rattle.mw_words.specs.declared.command_line.GenerateWords.{GenerateWords}
use Rattle.mw_offline.specs.Generating.{GeneratedText}

-- a folder tells of each name what its file holds, or that there is none
abbrev pub AreTold : Files → Type 0
AreTold files = (name : List ℕ) → (told : Option (List ℕ)) × (files name ≡ Some told)

-- of the same files, the same number and as many tries, `generate` makes one seed file and prints
-- one text
abbrev pub GenerateIsOne : Type 0
GenerateIsOne =
    (files : Files) (wanted : GenerateWords) (bytes text others other : List ℕ) → AreTold files
    → GeneratedText files wanted bytes text → GeneratedText files wanted others other
    → (bytes ≡ others) × (text ≡ other)
