use Rattle.std.proofs.Common.{◌+◌, sym, ◌∙◌, arith}
use Rattle.mw_rules.proofs.Views.{view_of_always, view_of_has, view_of_can_reach}
use Rattle.mw_clock.proofs.RuleNumbers.{is_stair, is_open, is_goal, how_many}
use Rattle.mw_clock.proofs.rules.tree_of.Goals as goal

pub returns-then-number-gears : goal.returns-then-number-gears
returns-then-number-gears c = view_of_has 0 (c.args.number + 1) ∙ sym (is_stair c.args.gears c.args.number c.requires.size (omega arith))

pub returns-then-number-gears-2 : goal.returns-then-number-gears-2
returns-then-number-gears-2 c = view_of_always ∙ sym (is_open c.args.gears c.args.number c.requires.size (omega arith) (omega arith))

pub returns : goal.returns
returns c = view_of_can_reach c.args.number ∙ sym (is_goal c.args.gears c.args.number c.requires.size (omega (arith, how_many c.args.gears c.requires.size)))
