use Rattle.std.proofs.Common.{◌≢◌, ◌∙◌}
use Rattle.clap.specs.Words.{app_of, kind_of}
use Rattle.clap.specs.Walk.{texts}
use Rattle.clap.specs.declared.error.kind.ErrorKind.TheVariants.{OutOfMemory}
use Rattle.mw_words.proofs.Matches.{found_is, none_at_fault, some_at_fault}
use Rattle.mw_words.proofs.arguments.parse.Goals as goal

pub returns-in-Ok-clause-faultless : goal.returns-in-Ok-clause-faultless
returns-in-Ok-clause-faultless c = none_at_fault (app_of c.args.command) (texts c.args.words.now) (c.in-Ok.ensures.kinds c.requires)

pub returns-in-Ok-clause-values : goal.returns-in-Ok-clause-values
returns-in-Ok-clause-values c = λ id. found_is (app_of c.args.command) (texts c.args.words.now) c.in-Ok.matches id c.requires c.in-Ok.ensures.matches

pub returns-clause-bad : goal.returns-clause-bad
returns-clause-bad c =
    let other : kind_of c.in-Err.error ≢ OutOfMemory = λ memory. c.in_default.not-OutOfMemory (c.kind.ensures ∙ memory) in
    λ _. some_at_fault (app_of c.args.command) (texts c.args.words.now) c.in-Err.error (c.in-Err.ensures.kinds c.requires) other
