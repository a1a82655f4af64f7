-- A script: the commands of its lines, or the line at which it is refused.
use Rattle.std.specs.Prelude.{ℕ, ◌+◌, ◌++◌, ◌∷◌, [], List, Option, Some, None, length, take, nat_le, is_some, unwrap_or, if◌then◌else◌, Result, Ok, Err}
use Rattle.mw_packets_in.specs.PacketsOf.{packets_of}
use Rattle.mw_script.specs.Commands.{Command, opens, sends, takes, loses, commits, crashes}
use Rattle.mw_script.specs.Lines.{Line, nothing, open_line, text_line, take_line, lost_line, commit_line, crash_line, line_of, lines_of, ended_lines}

-- ---- the commands of lines

-- what a line asks for, if it asks for something
abbrev pub asked_by : Option Line → List Command
asked_by None = []
asked_by (Some nothing) = []
asked_by (Some (open_line time)) = opens time ∷ []
asked_by (Some (text_line session message)) = sends session (packets_of message) ∷ []
asked_by (Some (take_line session)) = takes session ∷ []
asked_by (Some (lost_line session)) = loses session ∷ []
asked_by (Some commit_line) = commits ∷ []
asked_by (Some crash_line) = crashes ∷ []

-- what lines ask for, one after the other
abbrev pub commands_in : List (List ℕ) → List Command
commands_in [] = []
commands_in (line ∷ others) = asked_by (line_of line) ++ commands_in others

-- ---- the script

-- the first line that the grammar refuses, counted from a number on
abbrev pub first_refused : ℕ → List (List ℕ) → Option ℕ
first_refused number [] = None
first_refused number (line ∷ others) =
    if is_some (line_of line) then first_refused (number + 1) others else Some number

-- the commands of lines that the grammar has, or the line that it refuses
abbrev pub judged : List (List ℕ) → Option ℕ → Result (List Command) ℕ
judged lines None = Ok (commands_in lines)
judged lines (Some number) = Err number

-- the greatest length of a script
abbrev pub max_script : ℕ
max_script = 67108864

-- a script that is too long is refused at the first line that the grammar refuses among those that
-- end within the limit, or else at the line that passes it
abbrev pub too_long : List (List ℕ) → ℕ
too_long lines = unwrap_or (first_refused 1 lines) (1 + length lines)

-- the commands of a script, or the line at which it is refused, counted from 1
abbrev pub script_of : List ℕ → Result (List Command) ℕ
script_of bytes =
    if nat_le (length bytes) max_script
    then judged (lines_of bytes) (first_refused 1 (lines_of bytes))
    else Err (too_long (ended_lines (take max_script bytes)))
