use Rattle.std.proofs.Common.{◌≡◌, drop}
use Rattle.mw_multi.specs.JointOf.{sharings_from}
use Rattle.mw_multi.proofs.Fronts.{with_front}
use Rattle.mw_multi.proofs.sharing.sharings_in.Given as goal

abbrev pub invariant-loop-i : goal.invariant-loop-i
invariant-loop-i l = with_front l.sharings (sharings_from l.slots l.i (drop l.i l.links)) ≡ sharings_from l.slots 0 l.links
