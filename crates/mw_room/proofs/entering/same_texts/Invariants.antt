use Rattle.std.proofs.Common.{◌≡◌, drop}
use Rattle.mw_protocol.specs.Entering.{same_texts}
use Rattle.mw_room.proofs.entering.same_texts.Given as goal

abbrev pub invariant-loop-at : goal.invariant-loop-at
invariant-loop-at l = same_texts l.first l.second ≡ same_texts (drop l.at l.first) (drop l.at l.second)
