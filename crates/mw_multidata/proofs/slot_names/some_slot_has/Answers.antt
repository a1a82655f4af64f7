use Rattle.std.proofs.Common.{arith}
use Rattle.std.proofs.lemmas.Grind.{common_steps}
use Rattle.mw_multidata.proofs.Names.{has_name_append}
use Rattle.mw_multidata.proofs.slot_names.some_slot_has.Goals as goal

pub returns-then-has_name : goal.returns-then-has_name
returns-then-has_name c = grind (arith, common_steps, has_name_append)

pub loop-slot-preserved : goal.loop-slot-preserved
loop-slot-preserved c = grind (arith, common_steps, has_name_append)
