use Rattle.std.proofs.Common.{refl}
use Rattle.mw_checkpoint.proofs.creating.create_pair.Goals as goal

pub returns-in-Err-create_at-clause-stopped : goal.returns-in-Err-create_at-clause-stopped
returns-in-Err-create_at-clause-stopped g c = record {
  place = 1;
  made = ((c.in-Ok.ensures.empty, c.in-Ok.ensures.ok), refl);
  unmade = c.in-Err-create_at.ensures.unmade;
}

pub returns-in-Err-create_at-2-clause-stopped : goal.returns-in-Err-create_at-2-clause-stopped
returns-in-Err-create_at-2-clause-stopped g c = record {
  place = 2;
  made = ((c.in-Ok.ensures.empty, c.in-Ok.ensures.ok), (c.in-Ok-create_at.ensures.empty, c.in-Ok-create_at.ensures.ok));
  unmade = c.in-Err-create_at-2.ensures.unmade;
}
