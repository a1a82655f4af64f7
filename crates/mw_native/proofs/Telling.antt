-- What a closure tells, rule by rule.
use Rattle.std.proofs.Common.{◌≡◌, ℕ, zero, suc, ◌+◌, ◌<◌, List, [], ◌∷◌, length, get_or, refl, sym, ap, subst, arith, zero-add, add-zero}
use Rattle.std.specs.List.{AllZip}
use Rattle.mw_rules.specs.Rule.{Rule}
use Rattle.mw_rules.specs.Ruling.{rule_at}
use Rattle.mw_rules.specs.declared.named.Named.{Named}
use Rattle.mw_native.specs.Told.{Pre, Post, AnswersRule, AnswersFrom, IsNamed, AreTold}

pub length_named : (rules : List Rule) (named : List Named) → AllZip IsNamed rules named → length named ≡ length rules
length_named [] [] all = refl
length_named [] (n ∷ ns) all = absurd all
length_named (r ∷ rs) [] all = absurd all
length_named (r ∷ rs) (n ∷ ns) all = ap suc (length_named rs ns all.1)

pub named_at : (rules : List Rule) (named : List Named) (i : ℕ) (d : Named) → AllZip IsNamed rules named → i < length rules → IsNamed (rule_at rules i) (get_or named i d)
named_at [] [] i d all low = absurd (omega (arith, low))
named_at [] (n ∷ ns) i d all low = absurd all
named_at (r ∷ rs) [] i d all low = absurd all
named_at (r ∷ rs) (n ∷ ns) zero d all low = all.0
named_at (r ∷ rs) (n ∷ ns) (suc i) d all low = named_at rs ns i d all.1 (omega (arith, low))

-- the rule with this number, where the first of the rules has another one
pub answers_from : (pre : Pre) (post : Post) (rules : List Rule) (first i : ℕ) → AnswersFrom pre post first rules → i < length rules → AnswersRule pre post (first + i) (rule_at rules i)
answers_from pre post [] first i all low = absurd (omega (arith, low))
answers_from pre post (r ∷ rs) first zero all low = subst (λ n. AnswersRule pre post n r) (sym (add-zero first)) all.0
answers_from pre post (r ∷ rs) first (suc i) all low =
    let there : suc first + i ≡ first + suc i = omega arith in
    subst (λ n. AnswersRule pre post n (rule_at rs i)) there (answers_from pre post rs (suc first) i all.1 (omega (arith, low)))

pub answers_at : (pre : Pre) (post : Post) (named : List Named) (rules : List Rule) (i : ℕ) → AreTold pre post named rules → i < length rules → AnswersRule pre post i (rule_at rules i)
answers_at pre post named rules i told low = subst (λ n. AnswersRule pre post n (rule_at rules i)) (zero-add i) (answers_from pre post rules 0 i told.answers low)
