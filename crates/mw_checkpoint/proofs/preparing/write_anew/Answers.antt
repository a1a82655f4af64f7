use Rattle.std.proofs.Common.{[]}
use Rattle.mw_checkpoint.proofs.preparing.write_anew.Goals as goal

pub returns-in-Ok-append-clause-ok : goal.returns-in-Ok-append-clause-ok
returns-in-Ok-append-clause-ok g c = c.in-Ok-append.ensures.ok c.args.digest.now [] c.in-Ok.ensures.ok
