use Rattle.std.proofs.Common.{◌∙◌}
use Rattle.mw_native.proofs.Telling.{length_named}
use Rattle.mw_native.proofs.told.ToldRuling.count.Goals as goal

pub returns : goal.returns
returns g c = λ rules told. c.len.ensures ∙ length_named rules _ told.names
