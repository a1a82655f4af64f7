use Rattle.mw_disk.specs.Laws.{uncut}
use Rattle.mw_disk.proofs.tear.tear_cut.Goals as goal

pub returns-else-eq : goal.returns-else-eq
returns-else-eq c = uncut c.args.len c.args.image.now.items
