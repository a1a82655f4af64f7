use Rattle.std.proofs.Common.{◌≡◌}
use Rattle.mw_rows.proofs.lock_race.see_and_add.Given as goal

abbrev pub invariant-loop-turn : goal.invariant-loop-turn
invariant-loop-turn g l = l.pass.lock ≡ l.initial.pass.lock
