use Rattle.std.proofs.Common.{◌≡◌, drop, None}
use Rattle.mw_multidata.specs.Names.{members_named}
use Rattle.mw_multidata.proofs.group_names.judge_members.Given as goal

abbrev pub invariant-loop-i : goal.invariant-loop-i
invariant-loop-i l = members_named l.shape l.game l.before l.i (drop l.i l.numbers) ≡ members_named l.shape l.game None 0 l.numbers
