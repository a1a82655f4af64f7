-- What a seed file stands for: a seed, or the first refusal.
use Rattle.std.specs.Prelude.{ℕ, List, Result, Ok}
use Rattle.mw_model.specs.Json.{Json}
use Rattle.mw_model.specs.Seed.{Seed}
use Rattle.mw_json.specs.Grammar.{Breach, ◌>>=◌}
use Rattle.mw_json.specs.Files.{FileOf}
use Rattle.mw_multidata.specs.Shape.{shape_at}
use Rattle.mw_multidata.specs.Names.{names_named}

-- its shape, then its names
unfoldable pub seed_at : Json → Result Seed Breach
seed_at j = do
  seed ← shape_at j
  named ← names_named seed
  Ok seed

abbrev pub SeedOf : List ℕ → Result Seed Breach → Type 0
SeedOf bytes outcome = FileOf seed_at bytes outcome
