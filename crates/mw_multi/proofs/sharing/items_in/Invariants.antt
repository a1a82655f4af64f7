use Rattle.std.proofs.Common.{◌≡◌, drop}
use Rattle.mw_multi.specs.JointOf.{shared_items}
use Rattle.mw_multi.proofs.Fronts.{with_front}
use Rattle.mw_multi.proofs.sharing.items_in.Given as goal

abbrev pub invariant-loop-i : goal.invariant-loop-i
invariant-loop-i l = with_front l.items (shared_items l.link l.labels l.i (drop l.i l.names)) ≡ shared_items l.link l.labels 0 l.names
