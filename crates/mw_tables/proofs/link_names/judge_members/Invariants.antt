use Rattle.std.proofs.Common.{◌≡◌, None, drop}
use Rattle.mw_tables.specs.PlayersOf.{members_named}
use Rattle.mw_tables.proofs.link_names.judge_members.Given as goal

abbrev pub invariant-loop-i : goal.invariant-loop-i
invariant-loop-i l = members_named l.slots l.before l.i (drop l.i l.numbers) ≡ members_named l.slots None 0 l.numbers
