use Rattle.std.proofs.Common.{◌≡◌, length}
use Rattle.mw_play.specs.Ids.{ids_in}
use Rattle.mw_play.proofs.Reading.{in_front}
use Rattle.mw_play.proofs.input.ids_in.Given as goal

-- the locations so far, before those of the lines that are left, are those of all lines
abbrev pub invariant-loop-rest : goal.invariant-loop-rest
invariant-loop-rest l = in_front l.ids (ids_in l.rest) ≡ ids_in l.text

abbrev pub decreases-loop-rest : goal.decreases-loop-rest
decreases-loop-rest l = length l.rest
