use Rattle.std.proofs.Common.{map, arith}
use Rattle.mw_script.specs.Commands.{command_view}
use Rattle.mw_script.specs.Lines.{lines_of}
use Rattle.mw_script.specs.Script.{commands_in}
use Rattle.mw_script.proofs.Steps.{goes_later}
use Rattle.mw_script.proofs.script.commands_of.Goals as goal

pub loop-rest-preserved : goal.loop-rest-preserved
loop-rest-preserved c =
    let l = c.loop-rest in
    let s = c.split_line in
    goes_later (map command_view l.commands) (map command_view c.add_line.new.commands) (commands_in (lines_of c.args.script.now)) l.rest.now s.result.0.now s.result.1.now (grind arith) s.ensures.line s.ensures.rest c.in_ok-add_line.ensures l.invariant
