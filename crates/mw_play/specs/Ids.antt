-- The locations that the input names.
use Rattle.std.specs.Prelude.{◌≡◌, ◌≤◌, ◌^◌, ◌&&◌, ℕ, ℤ, pos, List, [], ◌∷◌, length, Option, Some, None, nat_le, nat_lt, if◌then◌else◌}
use Rattle.std.specs.Option.{option_and_then, option_map}
use Rattle.std.specs.Io.KnownBytes.{Consumes, IsAtEnd}
use Rattle.mw_script.specs.Lines.{lines_of, number_of}

-- the location of a number
abbrev pub id_of : ℕ → Option ℤ
id_of n = if nat_le 1 n && nat_lt n (2 ^ 53) then Some (pos n) else None

-- the location of a line, which is a number in digits
abbrev pub id_in : List ℕ → Option ℤ
id_in line = option_and_then id_of (number_of line)

-- the locations of lines, where each names one
abbrev pub ids_of : List (List ℕ) → Option (List ℤ)
ids_of [] = Some []
ids_of (line ∷ lines) =
    option_and_then (λ id. option_map (λ ids. id ∷ ids) (ids_of lines)) (id_in line)

-- the locations of a text, one a line; the last line's end may be missing
abbrev pub ids_in : List ℕ → Option (List ℤ)
ids_in text = ids_of (lines_of text)

-- the greatest length of the input
abbrev pub max_input : ℕ
max_input = 65536

-- these bytes were taken from the source, to its end unless they pass the limit
pub record IsRead (before after : Option (List ℕ)) (text : List ℕ) : Type 0 where
  pub taken : Consumes before after text
  pub ended : length text ≤ max_input → IsAtEnd after

-- the input was read to its end, and these are its locations
pub record HasIds (before after : Option (List ℕ)) (ids : List ℤ) : Type 0 where
  pub text : List ℕ
  pub taken : Consumes before after text
  pub at_end : IsAtEnd after
  pub few : length text ≤ max_input
  pub are : ids_in text ≡ Some ids

-- the input passes the limit, or some line of it names no location
pub record HasNoIds (before after : Option (List ℕ)) : Type 0 where
  pub text : List ℕ
  pub is_read : IsRead before after text
  pub bad : length text ≤ max_input → ids_in text ≡ None
