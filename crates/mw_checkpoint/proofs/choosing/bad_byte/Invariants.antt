use Rattle.std.proofs.Common.{take}
use Rattle.mw_checkpoint.specs.Choices.{AreChoices}
use Rattle.mw_checkpoint.proofs.choosing.bad_byte.Given as goal

-- the bytes so far are 0 or 1
abbrev pub invariant-loop-i : goal.invariant-loop-i
invariant-loop-i l = AreChoices (take l.i l.text)
