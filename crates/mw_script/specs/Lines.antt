-- The lines of a script, and what each one says.
use Rattle.std.specs.Prelude.{ℕ, ◌+◌, ◌*◌, ◌==◌, ◌&&◌, ◌^◌, ◌∷◌, [], List, Bool, Option, Some, None, true, not, codes, bytes_eq, length, nat_lt, nat_le, option_map, option_and_then, if◌then◌else◌}
use Rattle.std.specs.Char.{is_ascii_digit, digit_value}
use Rattle.std.specs.List.{position_or_len, before_first, after_first}
use Rattle.std.specs.Str.{is_utf8, all_ascii_digits}
use Rattle.std.specs.Str.Parse.{digits_value}
use Rattle.mw_script.specs.declared.line.Line as code
use Rattle.mw_script.specs.declared.line.Line.TheVariants.{Nothing, Open, Text, Take, Lost, Commit, Crash}

-- ---- the lines

-- a line is ended by a line feed
abbrev pub is_end : ℕ → Bool
is_end b = b == 10

-- the lines that a byte makes in front of others: it joins the first one
abbrev pub before_lines : ℕ → List (List ℕ) → List (List ℕ)
before_lines b [] = (b ∷ []) ∷ []
before_lines b (line ∷ others) = (b ∷ line) ∷ others

-- the lines, without their ends; the last end may be missing
abbrev pub lines_of : List ℕ → List (List ℕ)
lines_of [] = []
lines_of (b ∷ bs) = if is_end b then [] ∷ lines_of bs else before_lines b (lines_of bs)

-- the same for lines of which each has its end: a byte without one is no line
abbrev pub before_ended : ℕ → List (List ℕ) → List (List ℕ)
before_ended b [] = []
before_ended b (line ∷ others) = (b ∷ line) ∷ others

-- the lines that have their ends
abbrev pub ended_lines : List ℕ → List (List ℕ)
ended_lines [] = []
ended_lines (b ∷ bs) = if is_end b then [] ∷ ended_lines bs else before_ended b (ended_lines bs)

-- ---- words and numbers

abbrev pub is_blank : ℕ → Bool
is_blank b = b == 32

-- the bytes before the first blank, or all of them
abbrev pub first_word : List ℕ → List ℕ
first_word text = before_first is_blank text

-- the bytes after the first blank, where there is one
abbrev pub after_word : List ℕ → Option (List ℕ)
after_word text =
    if nat_lt (position_or_len is_blank text) (length text) then Some (after_first is_blank text)
    else None

-- a number is written in digits, of which the first may be 0, and is below 2^64
abbrev pub is_number : List ℕ → Bool
is_number digits =
    not (length digits == 0) && all_ascii_digits digits && nat_lt (digits_value 10 digits) (2 ^ 64)

-- a number with one more digit, where it is one and stays below 2^64
abbrev pub with_digit : ℕ → ℕ → Option ℕ
with_digit n b =
    if is_ascii_digit b && nat_lt (n * 10 + digit_value b) (2 ^ 64)
    then Some (n * 10 + digit_value b) else None

abbrev pub number_of : List ℕ → Option ℕ
number_of digits = if is_number digits then Some (digits_value 10 digits) else None

-- ---- what a line says

pub data Line : Type 0 where
  -- it is empty or a comment
  nothing : Line
  -- a session is opened at a time
  open_line : ℕ → Line
  -- a session sends a message
  text_line : ℕ → List ℕ → Line
  -- a session's untaken messages are taken
  take_line : ℕ → Line
  -- a session is lost
  lost_line : ℕ → Line
  -- what is pending is committed
  commit_line : Line
  -- the room is dropped with what is pending, and recovered
  crash_line : Line

-- an empty line and a comment say nothing
abbrev pub is_skipped : List ℕ → Bool
is_skipped [] = true
is_skipped (b ∷ bs) = b == 35

-- a line of one word
abbrev pub line_of_word : List ℕ → Option Line
line_of_word word =
    if bytes_eq word (codes "open") then Some (open_line 0)
    else (if bytes_eq word (codes "commit") then Some commit_line
    else (if bytes_eq word (codes "crash") then Some crash_line
    else None))

-- the greatest length of a message
abbrev pub max_message : ℕ
max_message = 524288

-- a session's message, unless it is too long
abbrev pub message_line : Option ℕ → List ℕ → Option Line
message_line None message = None
message_line (Some session) message =
    if nat_le (length message) max_message then Some (text_line session message) else None

-- a session's number, and the message after the blank
abbrev pub text_of : List ℕ → Option Line
text_of rest =
    option_and_then (λ message. message_line (number_of (first_word rest)) message)
    (after_word rest)

-- a line of a word and more
abbrev pub line_with : List ℕ → List ℕ → Option Line
line_with word rest =
    if bytes_eq word (codes "open") then option_map open_line (number_of rest)
    else (if bytes_eq word (codes "text") then text_of rest
    else (if bytes_eq word (codes "take") then option_map take_line (number_of rest)
    else (if bytes_eq word (codes "lost") then option_map lost_line (number_of rest)
    else None)))

abbrev pub line_by : List ℕ → Option (List ℕ) → Option Line
line_by word None = line_of_word word
line_by word (Some rest) = line_with word rest

-- what a text says as a line
abbrev pub line_in : List ℕ → Option Line
line_in text = if is_skipped text then Some nothing else line_by (first_word text) (after_word text)

-- what bytes say as a line, where the grammar has them
abbrev pub line_of : List ℕ → Option Line
line_of bytes = if is_utf8 bytes then line_in bytes else None

-- a line as plain data
abbrev pub line_view : code.Line → Line
line_view Nothing = nothing
line_view (Open time) = open_line time
line_view (Text session message) = text_line session message.now
line_view (Take session) = take_line session
line_view (Lost session) = lost_line session
line_view Commit = commit_line
line_view Crash = crash_line
