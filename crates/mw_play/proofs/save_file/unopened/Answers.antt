use Rattle.std.proofs.Common.{subst}
use Rattle.mw_journal.specs.Opening.{RefusesOpen}
use Rattle.mw_journal.specs.declared.error.OpenError.{OpenError}
use Rattle.mw_play.proofs.save_file.unopened.Goals as goal

pub returns-in-OtherSeed : goal.returns-in-OtherSeed
returns-in-OtherSeed c = λ told digest before after some refuses f is.
    (c.in-OtherSeed.found, subst (λ (e : OpenError). RefusesOpen told digest before after e) c.in-OtherSeed.is refuses f is)
