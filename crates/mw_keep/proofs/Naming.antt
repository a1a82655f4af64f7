-- What a seed file's seed keeps, its records can name.
use Rattle.std.proofs.Common.{◌≡◌, ℤ, List, Option, Some, None, true, refl, arith}
use Rattle.std.specs.Option.{is_some}
use Rattle.mw_model.specs.Seed.{Seed, Slot, Game}
use Rattle.mw_multidata.specs.SeedKept.{IsSeed, game_of, has_location}
use Rattle.mw_laws.specs.Naming.{NamesFit}

-- where a game has a location a slot plays it
plays : (games : List Game) (slot : Option Slot) (id : ℤ) → has_location (game_of games slot) id ≡ true → is_some slot ≡ true
plays games None id h = cc
plays games (Some s) id h = refl

pub names_fit : (seed : Seed) → IsSeed seed → NamesFit seed
names_fit seed is = record {
  names = λ k d lt. let kept = is.slots.each k d lt in omega (arith, kept.count);
  locations = λ k d lt. let kept = is.locations.each k d lt in plays seed.games _ _ kept.location;
}
