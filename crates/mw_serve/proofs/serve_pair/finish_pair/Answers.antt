use Rattle.std.proofs.Common.{Ok, refl}
use Rattle.mw_serve.proofs.serve_pair.finish_pair.Goals as goal

pub returns-in-Ok-clause-finishes : goal.returns-in-Ok-clause-finishes
returns-in-Ok-clause-finishes g c = (Ok c.in-Ok.field-0, c.in-Ok.ensures.finishes, refl)
