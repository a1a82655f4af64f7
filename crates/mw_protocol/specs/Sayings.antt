-- What a client says: a text for all, or a command.
use Rattle.std.specs.Prelude.{ℕ, ◌==◌, ◌∷◌, [], List, Bool, false, bytes_eq, codes, if◌then◌else◌}
use Rattle.std.specs.List.{before_first, after_first}

pub data Said : Type 0 where
  -- a text for all
  chat : List ℕ → Said
  help : Said
  players : Said
  missing : Said
  checked : Said
  remaining : Said
  release : Said
  collect : Said
  -- a hint of an item of this name is wanted; without a name, what a hint costs
  hint : List ℕ → Said
  -- a hint of what stands at the location of this name
  hint_location : List ℕ → Said
  unknown_command : Said

-- it begins with `!`
abbrev pub is_command : List ℕ → Bool
is_command [] = false
is_command (first ∷ others) = first == 33

abbrev pub is_space : ℕ → Bool
is_space code = code == 32

-- the word up to the first space
abbrev pub word_of : List ℕ → List ℕ
word_of text = before_first is_space text

-- what follows the first space, nothing where there is none
abbrev pub rest_of : List ℕ → List ℕ
rest_of text = after_first is_space text

-- what asks for hints, by its word, with its rest
abbrev pub hint_named : List ℕ → List ℕ → Said
hint_named word rest =
    if bytes_eq word (codes "!hint") then hint rest
    else (if bytes_eq word (codes "!hint_location") then hint_location rest
    else unknown_command)

-- a command, by its word, with its rest
abbrev pub command_named : List ℕ → List ℕ → Said
command_named word rest =
    if bytes_eq word (codes "!help") then help
    else (if bytes_eq word (codes "!players") then players
    else (if bytes_eq word (codes "!missing") then missing
    else (if bytes_eq word (codes "!checked") then checked
    else (if bytes_eq word (codes "!remaining") then remaining
    else (if bytes_eq word (codes "!release") then release
    else (if bytes_eq word (codes "!collect") then collect
    else hint_named word rest))))))

-- what a text says
abbrev pub said_of : List ℕ → Said
said_of text = if is_command text then command_named (word_of text) (rest_of text) else chat text
