use Rattle.std.proofs.Common.{Ok, subst, sym}
use Rattle.mw_multidata.specs.SeedOf.{SeedOf}
use Rattle.mw_multidata.proofs.SeedKept.{file_kept}
use Rattle.mw_multidata.proofs.reading.read.Goals as goal

pub accepted-requires : goal.accepted-requires
accepted-requires c = file_kept c.args.bytes.now c.in_ok-shape.shape c.in_ok-shape.ensures

pub returns : goal.returns
returns c = subst (λ s. SeedOf c.args.bytes.now (Ok s)) (sym c.accepted.ensures) c.in_ok-shape.ensures
