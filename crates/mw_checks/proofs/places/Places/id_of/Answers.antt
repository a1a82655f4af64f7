use Rattle.std.proofs.Common.{pos, ◌≤ℤ◌, ◌<ℤ◌, ◌^◌, subst, arith}
use Rattle.std.proofs.lemmas.Int.{ints}
use Rattle.mw_model.specs.Seed.{Seed}
use Rattle.mw_checks.specs.Numbers.{AllIds}
use Rattle.mw_checks.proofs.Numbering.{none_held}
use Rattle.mw_checks.proofs.places.Places.id_of.Goals as goal
use Rattle.mw_checks.proofs.places.Places.id_of.Goals.{else-number-ge1-via-then-number-ge1+else-number-lt9007199254740992, else-number-ge1-via-else-number-ge1}

pub returns-else-number-ge1-clause-none : goal.returns-else-number-ge1-clause-none
returns-else-number-ge1-clause-none c =
    let ids : AllIds c.args.self.now.locations = subst (λ (s : Seed). AllIds s.locations) c.self.view_is c.self.invariant.1 in
    let out : (pos 1 ≤ℤ c.args.number) → (c.args.number <ℤ pos (2 ^ 53)) → ⊥ =
    (λ low high. elim c.else-number-ge1.branch [
      | else-number-ge1-via-then-number-ge1+else-number-lt9007199254740992 w ↦ omega (arith, ints)
      | else-number-ge1-via-else-number-ge1 w ↦ omega (arith, ints)
    ]) in
    λ slot. none_held c.args.self.now.locations slot c.args.number ids out
