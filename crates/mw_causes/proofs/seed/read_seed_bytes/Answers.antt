use Rattle.std.proofs.Common.{Ok, subst}
use Rattle.mw_multidata.specs.SeedOf.{SeedOf}
use Rattle.mw_causes.proofs.seed.read_seed_bytes.Goals as goal

pub returns-clause-ok : goal.returns-clause-ok
returns-clause-ok g c = (c.in_ok-bytes.ensures.ok, subst (λ b. SeedOf b (Ok c.in_ok-multidata.multidata)) c.as_slice.ensures c.in_ok-multidata.ensures.ok)
