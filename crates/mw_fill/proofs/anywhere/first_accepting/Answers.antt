use Rattle.mw_fill.specs.Openings.{accepts}
use Rattle.mw_fill.proofs.Fitting.{past_taken}
use Rattle.mw_fill.proofs.anywhere.first_accepting.Goals as goal

pub loop-opening-init : goal.loop-opening-init
loop-opening-init c = past_taken (accepts c.args.copy.now) c.args.held.now c.args.openings.now c.args.from c.requires.taken
