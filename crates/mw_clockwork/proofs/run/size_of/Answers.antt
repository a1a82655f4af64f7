use Rattle.std.proofs.Common.{◌≡◌, ◌∙◌, ℕ, List, Some, sym, decimal, arith}
use Rattle.std.proofs.lemmas.Fmt.{decimal_injective}
use Rattle.mw_clock.specs.Words.{HasGears}
use Rattle.mw_clockwork.proofs.run.size_of.Goals as goal

one_number : (words : List (List ℕ)) (m n : ℕ) → HasGears words m → HasGears words n → m ≡ n
one_number words m n p q =
    let both : Some (decimal m) ≡ Some (decimal n) = sym p.there ∙ q.there in
    let same : decimal m ≡ decimal n = cc in
    decimal_injective m n (omega (arith, p.size.high)) (omega (arith, q.size.high)) same

pub returns-in-Some-clause-asked : goal.returns-in-Some-clause-asked
returns-in-Some-clause-asked c = λ gears asked. one_number c.args.words.now gears c.in-Some.gears asked c.in-Some.ensures.some
