use Rattle.std.proofs.Common.{◌≡◌, take}
use Rattle.mw_multi.proofs.build.names_of.Given as goal

abbrev pub invariant-loop-world : goal.invariant-loop-world
invariant-loop-world l = l.names ≡ take l.world-index l.worlds
