-- A file's bytes under a grammar: no JSON, nested too deep, or what the grammar says of the reading.
use Rattle.std.specs.Prelude.{◌≡◌, ◌<◌, ◌≤◌, ◌⊎◌, ℕ, List, [], None, Result, Ok, Err, IsUtf8}
use Rattle.mw_model.specs.Json.{Json, depth}
use Rattle.mw_json.specs.Reading.{IsReading, reading, max_depth}
use Rattle.mw_json.specs.Grammar.{Breach, refused}
use Rattle.mw_json.specs.declared.refusal.Kind.TheVariants.{NoJson, TooDeep}
use Rattle.mw_json.specs.declared.refusal.Refusal.{Refusal}
use Rattle.mw_json.specs.declared.refusal.Refusal.TheVariants.{Memory, Named}

-- the bytes have no reading
abbrev pub HasNoReading : List ℕ → Type 0
HasNoReading bytes = IsUtf8 bytes → reading bytes ≡ None

-- they have one that nests too deep
pub record IsTooDeep (bytes : List ℕ) (j : Json) : Type 0 where
  pub read : IsReading bytes j
  pub deep : max_depth < depth j

-- they have one that may be judged
pub record IsJudged (bytes : List ℕ) (j : Json) : Type 0 where
  pub read : IsReading bytes j
  pub deep : depth j ≤ max_depth

-- the value that a file stands for, or its first refusal
abbrev pub FileOf : {A : Type 0} → (Json → Result A Breach) → List ℕ → Result A Breach → Type 0
FileOf grammar bytes outcome =
    (HasNoReading bytes × (outcome ≡ refused NoJson))
    ⊎ (((j : Json) × IsTooDeep bytes j × (outcome ≡ refused TooDeep))
    ⊎ ((j : Json) × IsJudged bytes j × (grammar j ≡ outcome)))

-- the answer is that, unless memory ran out
abbrev pub GivesFile : {A : Type 0} → Result A Refusal → (Json → Result A Breach) → List ℕ → Type 0
GivesFile (Ok x) grammar bytes = FileOf grammar bytes (Ok x)
GivesFile (Err Memory) grammar bytes = Unit {0}
GivesFile (Err (Named kind path)) grammar bytes =
    FileOf grammar bytes (Err record { kind = kind; path = path })

-- a file's refusal before any grammar
abbrev pub IsUnread : List ℕ → Refusal → Type 0
IsUnread bytes Memory = Unit {0}
IsUnread bytes (Named kind path) =
    (path ≡ []) × ((HasNoReading bytes × (kind ≡ NoJson))
    ⊎ ((j : Json) × IsTooDeep bytes j × (kind ≡ TooDeep)))
