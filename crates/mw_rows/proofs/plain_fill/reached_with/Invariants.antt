use Rattle.mw_reach.specs.Reached.{IsMadeFor, KeepsRules}
use Rattle.mw_rows.proofs.plain_fill.reached_with.Given as goal

abbrev pub invariant-loop : goal.invariant-loop
invariant-loop l = IsMadeFor l.joint l.reached × KeepsRules l.joint l.reached
