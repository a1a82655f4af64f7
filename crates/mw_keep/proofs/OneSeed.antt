-- A seed file stands for one seed, and a room of it is refused as one of that seed.
use Rattle.std.proofs.Common.{◌≡◌, ◌∙◌, ℕ, List, inl, inr, sym, ap, Some}
use Rattle.std.specs.Prelude.{Ok}
use Rattle.std.specs.declared.option.Option.{Option}
use Rattle.mw_json.specs.Reading.{IsReading}
use Rattle.mw_model.specs.Json.{Json}
use Rattle.mw_model.specs.Seed.{Seed}
use Rattle.mw_multidata.specs.SeedOf.{SeedOf}
use Rattle.mw_multidata.specs.SeedOf.{seed_at}
use Rattle.mw_keep.specs.Recovers.{RefusesRecover, RefusesResume}
use Rattle.mw_keep.specs.declared.error.KeepError.{KeepError}
use Rattle.mw_keep.specs.declared.error.KeepError.TheVariants.{BadSeed, DiskFault, NotJournal, OtherSeed, BadRecord, Memory}

one_reading : (bytes : List ℕ) (i j : Json) → IsReading bytes i → IsReading bytes j → i ≡ j
one_reading bytes i j p q = let same : Some i ≡ Some j = sym p.is ∙ q.is in cc

pub one_seed : (file : List ℕ) (a b : Seed) → SeedOf file (Ok a) → SeedOf file (Ok b) → a ≡ b
one_seed file a b (inl p) other = absurd cc
one_seed file a b (inr (inl p)) other = absurd cc
one_seed file a b (inr (inr p)) (inl q) = absurd cc
one_seed file a b (inr (inr p)) (inr (inl q)) = absurd cc
one_seed file a b (inr (inr p)) (inr (inr q)) =
    let same : Ok a ≡ Ok b = sym p.2 ∙ ap seed_at (one_reading file p.0 q.0 p.1.read q.1.read) ∙ q.2 in cc

pub refuses_recover : (told : Option (List ℕ)) (file digest : List ℕ) (seed : Seed) (before after : ℕ) → SeedOf file (Ok seed) → (error : KeepError)
    → RefusesResume told digest seed before after error → RefusesRecover told file digest before after error
refuses_recover told file digest seed before after accepted (BadSeed kind path) refuses = absurd refuses
refuses_recover told file digest seed before after accepted DiskFault refuses = (seed, accepted, refuses)
refuses_recover told file digest seed before after accepted (NotJournal at) refuses = (seed, accepted, refuses)
refuses_recover told file digest seed before after accepted (OtherSeed found) refuses = (seed, accepted, refuses)
refuses_recover told file digest seed before after accepted (BadRecord at) refuses = (seed, accepted, refuses)
refuses_recover told file digest seed before after accepted Memory refuses = tt
