-- The words of the command line after the program's name, and what they ask for.
use Rattle.std.specs.Prelude.{◌≡◌, ◌≢◌, ◌<◌, ◌^◌, ℕ, List, [], ◌∷◌, Some, Ok, codes, decimal, slice_get}
use Rattle.mw_json.specs.Grammar.{name_of}
use Rattle.mw_clock.specs.Clockwork.{IsSize}

-- the second word is the number of gears, in digits with no 0 before others
pub record HasGears (words : List (List ℕ)) (gears : ℕ) : Type 0 where
  pub there : slice_get words 1 ≡ Some (decimal gears)
  pub size : IsSize gears

-- a seed of this number for so many gears, in the file of this name
pub record SeedWords : Type 0 where
  pub gears : ℕ
  pub seed : ℕ
  pub out_name : List ℕ

-- the tables of so many gears, in the files of these names
pub record TableWords : Type 0 where
  pub gears : ℕ
  pub world_name : List ℕ
  pub players_name : List ℕ

-- `generate GEARS SEED OUT`
pub record IsGenerate (words : List (List ℕ)) (wanted : SeedWords) : Type 0 where
  pub words_are : words
      ≡ codes "generate" ∷ decimal wanted.gears ∷ decimal wanted.seed ∷ wanted.out_name ∷ []
  pub size : IsSize wanted.gears
  pub small : wanted.seed < 2 ^ 64

-- 1 to 128 characters, none below U+0020
abbrev pub IsFileName : List ℕ → Type 0
IsFileName name = name_of 128 name ≡ Ok name

-- `tables GEARS WORLD PLAYERS`, of two files, where a players file can name the first
pub record IsTables (words : List (List ℕ)) (asked : TableWords) : Type 0 where
  pub words_are : words
      ≡ codes "tables" ∷ decimal asked.gears ∷ asked.world_name ∷ asked.players_name ∷ []
  pub size : IsSize asked.gears
  pub named : IsFileName asked.world_name
  pub differ : asked.world_name ≢ asked.players_name

-- they ask for nothing
pub record IsNoCommand (words : List (List ℕ)) : Type 0 where
  pub no_seed : (wanted : SeedWords) → IsGenerate words wanted → ⊥
  pub no_tables : (asked : TableWords) → IsTables words asked → ⊥
