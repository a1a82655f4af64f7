-- What an answer says of what was defined.
use Rattle.std.specs.Prelude.{◌≡◌, ℕ, List, map, Result, Ok, Err}
use Rattle.mw_script.specs.Commands.{Command, command_view}
use Rattle.mw_script.specs.declared.command.Command as code
use Rattle.mw_script.specs.declared.script.ScriptError.{ScriptError}
use Rattle.mw_script.specs.declared.script.ScriptError.TheVariants.{Memory, Refused}

-- the commands of a script, or the line at which it is refused, unless memory ran out
abbrev pub GivesScript : Result (List code.Command) ScriptError → Result (List Command) ℕ → Type 0
GivesScript (Ok commands) outcome = outcome ≡ Ok (map command_view commands)
GivesScript (Err Memory) outcome = Unit {0}
GivesScript (Err (Refused line)) outcome = outcome ≡ Err line
