use Rattle.std.proofs.Common.{◌≡◌, ◌++◌, drop}
use Rattle.mw_room.proofs.people.copied.Given as goal

abbrev pub invariant-loop-sum : goal.invariant-loop-sum
invariant-loop-sum l = l.copies ++ drop l.sum-index l.games ≡ l.games
