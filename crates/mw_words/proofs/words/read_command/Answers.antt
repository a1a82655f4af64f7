use Rattle.std.proofs.Common.{rules}
use Rattle.clap.specs.Walk.{texts}
use Rattle.mw_words.proofs.Asking.{first_text, only_generate, only_check, only_new_room, only_drive, only_serve, only_stress, only_thin}
use Rattle.mw_words.proofs.words.read_command.Goals as goal

pub returns-in_err-read_generate-in-generate-clause-bad : goal.returns-in_err-read_generate-in-generate-clause-bad
returns-in_err-read_generate-in-generate-clause-bad c = λ is line.
    only_generate (texts c.args.words.now) line (first_text c.args.words.now c.in-Some.command.now _ c.in-Some.ensures.value c.in-generate.is) (search rules)

pub returns-in_err-read_check-in-check-clause-bad : goal.returns-in_err-read_check-in-check-clause-bad
returns-in_err-read_check-in-check-clause-bad c = λ is line.
    only_check (texts c.args.words.now) line (first_text c.args.words.now c.in-Some.command.now _ c.in-Some.ensures.value c.in-check.is) (search rules)

pub returns-in_err-read_new_room-in-text-clause-bad : goal.returns-in_err-read_new_room-in-text-clause-bad
returns-in_err-read_new_room-in-text-clause-bad c = λ is line.
    only_new_room (texts c.args.words.now) line (first_text c.args.words.now c.in-Some.command.now _ c.in-Some.ensures.value c.in-text.is) (search rules)

pub returns-in_err-read_drive-in-drive-clause-bad : goal.returns-in_err-read_drive-in-drive-clause-bad
returns-in_err-read_drive-in-drive-clause-bad c = λ is line.
    only_drive (texts c.args.words.now) line (first_text c.args.words.now c.in-Some.command.now _ c.in-Some.ensures.value c.in-drive.is) (search rules)

pub returns-in_err-read_serve-in-serve-clause-bad : goal.returns-in_err-read_serve-in-serve-clause-bad
returns-in_err-read_serve-in-serve-clause-bad c = λ is line.
    only_serve (texts c.args.words.now) line (first_text c.args.words.now c.in-Some.command.now _ c.in-Some.ensures.value c.in-serve.is) (search rules)

pub returns-in_err-read_stress-in-stress-clause-bad : goal.returns-in_err-read_stress-in-stress-clause-bad
returns-in_err-read_stress-in-stress-clause-bad c = λ is line.
    only_stress (texts c.args.words.now) line (first_text c.args.words.now c.in-Some.command.now _ c.in-Some.ensures.value c.in-stress.is) (search rules)

pub returns-in_err-read_thin-in-thin-clause-bad : goal.returns-in_err-read_thin-in-thin-clause-bad
returns-in_err-read_thin-in-thin-clause-bad c = λ is line.
    only_thin (texts c.args.words.now) line (first_text c.args.words.now c.in-Some.command.now _ c.in-Some.ensures.value c.in-thin.is) (search rules)
