-- Rules that are answered each by its number are answered one after the other.
use Rattle.std.proofs.Common.{◌≡◌, ◌<◌, ◌+◌, ℕ, suc, List, [], ◌∷◌, length, subst, arith}
use Rattle.std.specs.List.{AllZip}
use Rattle.mw_rules.specs.Rule.{Rule}
use Rattle.mw_rules.specs.Ruling.{rule_at}
use Rattle.mw_rules.specs.declared.named.Named.{Named}
use Rattle.mw_native.specs.Told.{Pre, Post, AnswersRule, AnswersFrom, IsNamed, AreTold}
use Rattle.mw_clock.specs.Clockwork.{clock_rules}
use Rattle.mw_clock.specs.Answers.{AnswersClock}

each_from : (pre : Pre) (post : Post) (first : ℕ) (rules : List Rule) → ((k : ℕ) → k < length rules → AnswersRule pre post (first + k) (rule_at rules k)) → AnswersFrom pre post first rules
each_from pre post first [] all = tt
each_from pre post first (r ∷ rs) all =
    let here : first + 0 ≡ first = omega arith in
    let next : (k : ℕ) → k < length rs → AnswersRule pre post (suc first + k) (rule_at rs k) =
    λ k low. (
    let same : first + suc k ≡ suc first + k = omega arith in
    let still : suc k < length (r ∷ rs) = omega (arith, low) in
    subst (λ n. AnswersRule pre post n (rule_at rs k)) same (all (suc k) still)
    ) in
    let some : 0 < length (r ∷ rs) = omega arith in
    (subst (λ n. AnswersRule pre post n r) here (all 0 some), each_from pre post (suc first) rs next)

-- the world's rules are told
pub answers_each : (pre : Pre) (post : Post) (gears : ℕ) (named : List Named) → AllZip IsNamed (clock_rules gears) named → AnswersClock pre post gears → AreTold pre post named (clock_rules gears)
answers_each pre post gears named names answers =
    let all : (k : ℕ) → k < length (clock_rules gears) → AnswersRule pre post (0 + k) (rule_at (clock_rules gears) k) =
    λ k low. (
    let same : k ≡ 0 + k = omega arith in
    subst (λ n. AnswersRule pre post n (rule_at (clock_rules gears) k)) same (answers k low)
    ) in
    record { names = names; answers = each_from pre post 0 (clock_rules gears) all }
