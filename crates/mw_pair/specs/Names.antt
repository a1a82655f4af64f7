-- The names of the three files of a pair room.
use Rattle.std.specs.Prelude.{◌≡◌, ◌≢◌, ◌⊎◌, ℕ, List, ◌++◌, codes}
use Rattle.mw_checkpoint.specs.Pair.{journal_at}
use Rattle.mw_checkpoint.specs.declared.files.Files.{Files}

-- those of the pair room of CHOICE: its own, and with `.0` and `.1` added
abbrev pub file_names : List ℕ → Files (List ℕ)
file_names choice =
    record { choice = choice; zero = choice ++ codes ".0"; one = choice ++ codes ".1" }

-- the name of a journal, by its number
abbrev pub journal_name : List ℕ → ℕ → List ℕ
journal_name choice number = journal_at number (file_names choice)

-- a name is that of one of the three files
abbrev pub IsOneOf : List ℕ → List ℕ → Type 0
IsOneOf choice name =
    (name ≡ choice) ⊎ ((name ≡ (file_names choice).zero) ⊎ (name ≡ (file_names choice).one))

-- it is that of none of them
pub record IsOther (choice name : List ℕ) : Type 0 where
  pub choice_other : name ≢ choice
  pub first_other : name ≢ (file_names choice).zero
  pub second_other : name ≢ (file_names choice).one
