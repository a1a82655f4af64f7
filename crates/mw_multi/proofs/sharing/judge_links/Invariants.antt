use Rattle.std.proofs.Common.{◌≡◌, drop}
use Rattle.mw_multi.specs.JointOf.{links_play}
use Rattle.mw_multi.proofs.sharing.judge_links.Given as goal

abbrev pub invariant-loop-i : goal.invariant-loop-i
invariant-loop-i l = links_play l.slots l.i (drop l.i l.links) ≡ links_play l.slots 0 l.links
