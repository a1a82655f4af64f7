use Rattle.std.proofs.Common.{arith}
use Rattle.std.proofs.lemmas.Grind.{common_steps}
use Rattle.mw_multi.proofs.Indexes.{index_more}
use Rattle.mw_multi.proofs.labels.places_of.Goals as goal

pub loop-i-preserved : goal.loop-i-preserved
loop-i-preserved c = λ q. let before = c.loop-i.invariant q in let after = c.in_ok-note_label.ensures q in grind (arith, common_steps, index_more)
