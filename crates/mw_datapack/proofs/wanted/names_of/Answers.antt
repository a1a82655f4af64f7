use Rattle.std.proofs.Common.{arith}
use Rattle.std.proofs.lemmas.Grind.{common_steps}
use Rattle.mw_datapack.proofs.OneMore.{has_text_push}
use Rattle.mw_datapack.proofs.wanted.names_of.Goals as goal

pub loop-name-preserved : goal.loop-name-preserved
loop-name-preserved c = λ q. grind (arith, common_steps, has_text_push, c.loop-name.invariant q, c.in_ok-note.ensures q)
