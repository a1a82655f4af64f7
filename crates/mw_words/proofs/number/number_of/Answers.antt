use Rattle.std.proofs.Common.{◌≡◌, Ok, inl, inr, arith}
use Rattle.std.specs.Prelude.{IsTrue}
use Rattle.mw_words.specs.Numbers.{BeginsAmiss}
use Rattle.mw_words.proofs.Numbers.{amiss_is_none, read_is, read_back}
use Rattle.mw_words.proofs.number.number_of.Goals as goal

pub returns-then-begins_amiss-clause-none : goal.returns-then-begins_amiss-clause-none
returns-then-begins_amiss-clause-none c = λ n least most. amiss_is_none n c.args.word.now (omega arith) (c.begins_amiss.ensures.0 c.if-begins_amiss.true)

pub returns-in_default-clause-none : goal.returns-in_default-clause-none
returns-in_default-clause-none c = λ n least most is.
    let there : c.parse.result ≡ Ok n = read_back c.parse.result n c.args.word.now c.parse.ensures.value.0 (omega arith) is in
    cc

pub returns-then-number-least-clause-none : goal.returns-then-number-least-clause-none
returns-then-number-least-clause-none c = λ n least most is.
    let there : c.parse.result ≡ Ok n = read_back c.parse.result n c.args.word.now c.parse.ensures.value.0 (omega arith) is in
    let same : n ≡ c.in-Ok.number = cc in
    elim c.then-number-least.either [ inl under ↦ omega arith | inr over ↦ omega arith ]

pub returns-clause-some : goal.returns-clause-some
returns-clause-some c =
    let well : BeginsAmiss c.args.word.now → ⊥ = λ amiss. let is_amiss : IsTrue c.begins_amiss.result = c.begins_amiss.ensures.1 amiss in cc in
    read_is c.parse.result c.in-Ok.number c.args.word.now c.parse.ensures.value.0 c.in-Ok.is well
