use Rattle.std.proofs.Common.{◌≡◌, ◌+◌, ℕ, true, length, nat_lt, nat_le, slice_index_or, refl, sym, subst, arith}
use Rattle.std.proofs.lemmas.Grind.{common_steps}
use Rattle.mw_rules.specs.Rule.{IsWithin}
use Rattle.mw_rules.specs.Holds.{bag_of, places_of, holds}
use Rattle.mw_clock.proofs.RuleNumbers.{is_stair, is_open, is_goal, how_many}
use Rattle.mw_clock.proofs.rules.clock_rule.Goals as goal

more_than : (a b : ℕ) → nat_lt a b ≡ nat_le (a + 1) b
more_than a b = grind (arith, common_steps)

pub bounds-counts-0 : goal.bounds-counts-0
bounds-counts-0 c =
    subst (IsWithin (length c.args.counts.now) (length c.args.places.now)) (is_stair c.args.gears c.args.number c.requires.size (omega arith)) c.requires.within

pub returns-then-number-gears : goal.returns-then-number-gears
returns-then-number-gears c =
    subst (λ r. nat_lt c.args.number (slice_index_or c.args.counts.now 0 0) ≡ holds r (bag_of c.args.counts.now) (places_of c.args.places.now))
    (sym (is_stair c.args.gears c.args.number c.requires.size (omega arith))) (more_than c.args.number (slice_index_or c.args.counts.now 0 0))

pub returns-then-number-gears-2 : goal.returns-then-number-gears-2
returns-then-number-gears-2 c =
    subst (λ r. true ≡ holds r (bag_of c.args.counts.now) (places_of c.args.places.now)) (sym (is_open c.args.gears c.args.number c.requires.size (omega arith) (omega arith))) refl

pub bounds-places-number : goal.bounds-places-number
bounds-places-number c =
    subst (IsWithin (length c.args.counts.now) (length c.args.places.now)) (is_goal c.args.gears c.args.number c.requires.size (omega (arith, how_many c.args.gears c.requires.size))) c.requires.within

pub returns : goal.returns
returns c =
    subst (λ r. places_of c.args.places.now c.args.number ≡ holds r (bag_of c.args.counts.now) (places_of c.args.places.now))
    (sym (is_goal c.args.gears c.args.number c.requires.size (omega (arith, how_many c.args.gears c.requires.size)))) refl
