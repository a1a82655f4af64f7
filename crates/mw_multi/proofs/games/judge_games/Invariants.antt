use Rattle.std.proofs.Common.{◌≡◌, [], take, drop}
use Rattle.mw_multi.specs.JointOf.{games_differ}
use Rattle.mw_multi.proofs.games.judge_games.Given as goal

abbrev pub invariant-loop-i : goal.invariant-loop-i
invariant-loop-i l = games_differ (take l.i l.worlds) l.i (drop l.i l.worlds) ≡ games_differ [] 0 l.worlds
