use Rattle.std.proofs.Common.{◌≡◌, ◌++◌, length, map}
use Rattle.mw_script.specs.Commands.{command_view}
use Rattle.mw_script.specs.Lines.{lines_of}
use Rattle.mw_script.specs.Script.{commands_in}
use Rattle.mw_script.proofs.script.commands_of.Given as goal

-- the commands so far, before those of the lines that are left, are those of all lines
abbrev pub invariant-loop-rest : goal.invariant-loop-rest
invariant-loop-rest l = map command_view l.commands ++ commands_in (lines_of l.rest) ≡ commands_in (lines_of l.script)

abbrev pub decreases-loop-rest : goal.decreases-loop-rest
decreases-loop-rest l = length l.rest
