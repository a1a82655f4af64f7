use Rattle.std.proofs.Common.{◌≡◌, ◌∷◌, [], length, length-append, ap, ◌∙◌, subst, take, arith}
use Rattle.std.proofs.Math.Seq.{take-length}
use Rattle.std.specs.List.{AllZip}
use Rattle.mw_rules.specs.Names.{AreNames}
use Rattle.mw_native.specs.Told.{IsNamed}
use Rattle.mw_clock.specs.Clockwork.{clock_rules}
use Rattle.mw_clock.proofs.Growing.{named_more}
use Rattle.mw_clock.proofs.RuleNumbers.{how_many}
use Rattle.mw_clock.proofs.rules.clock_named.Goals as goal

pub loop-number-preserved : goal.loop-number-preserved
loop-number-preserved c =
    let named = c.in_ok-of.field-0 in
    let rules = clock_rules c.args.gears in
    let is : IsNamed _ named = subst (λ r. AreNames r named.items named.places) c.tree_of.ensures c.in_ok-of.ensures in
    rw c.in_ok-push.ensures.ok (
      omega (arith, length-append c.loop-number.named (named ∷ []), c.loop-number.invariant.0),
      named_more rules c.loop-number.number c.loop-number.named named (omega (arith, how_many c.args.gears c.requires)) c.loop-number.invariant.1 is,
    )

pub returns-clause-names : goal.returns-clause-names
returns-clause-names c =
    let rules = clock_rules c.args.gears in
    let all : c.loop-number.number ≡ length rules = omega (arith, how_many c.args.gears c.requires) in
    let whole : take c.loop-number.number rules ≡ rules = ap (λ n. take n rules) all ∙ take-length rules in
    subst (λ some. AllZip IsNamed some c.loop-number.named) whole c.loop-number.invariant.1
