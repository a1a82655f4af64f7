use Rattle.std.proofs.Common.{◌≡◌, ◌++◌, drop, string_bytes}
use Rattle.mw_drive.specs.Drive.{message_lines}
use Rattle.mw_drive.proofs.printing.messages.Given as goal

abbrev pub invariant-loop-text : goal.invariant-loop-text
invariant-loop-text l = string_bytes l.out ++ message_lines l.session (drop l.text-index l.text-items) ≡ message_lines l.session l.text-items
