use Rattle.std.proofs.Common.{of_z, arith}
use Rattle.std.specs.Int.{w64}
use Rattle.std.proofs.lemmas.Int.{ints}
use Rattle.mw_storage.proofs.Elements.{past_end}
use Rattle.mw_storage.proofs.lists.without_index.Goals as goal

pub returns-else-at-len : goal.returns-else-at-len
returns-else-at-len c = past_end c.args.items c.args.index (of_z w64 c.args.index) (omega (arith, ints)) (omega (arith, ints, c.len.ensures))
