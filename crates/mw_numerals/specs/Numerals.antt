-- The numerals of JSON, and those that are plain whole numbers.
use Rattle.std.specs.Prelude.{ℕ, ℤ, pos, negsuc, ◌^◌, ◌==◌, ◌&&◌, ◌||◌, List, Bool, false, not, nat_lt, bytes_eq, Option, Some, None, length}
use Rattle.std.specs.Char.{is_ascii_digit}
use Rattle.std.specs.Fmt.{signed_decimal}
use Rattle.std.specs.Str.Parse.{signed_digits_value}
use Rattle.json.specs.Ascii as ascii
use Rattle.json.specs.Word.{after_number}

-- a byte that numerals are made of: a digit, `+`, `-`, `.`, `e` or `E`
abbrev pub is_numeral_byte : ℕ → Bool
is_numeral_byte x =
    is_ascii_digit x || (x == ascii.plus) || (x == ascii.minus) || (x == ascii.dot)
    || (x == ascii.lower_e) || (x == ascii.upper_e)

-- nothing is left
abbrev pub is_all : Option (List ℕ) → Bool
is_all None = false
is_all (Some rest) = length rest == 0

-- the grammar of numbers takes all of these characters
abbrev pub is_number : List ℕ → Bool
is_number s = is_all (after_number s)

-- from -2^63 to 2^64 - 1
abbrev pub is_in_range : ℤ → Bool
is_in_range (pos n) = nat_lt n (2 ^ 64)
is_in_range (negsuc n) = nat_lt n (2 ^ 63)

-- a whole number in that range, and how it is written
abbrev pub is_written : ℤ → List ℕ → Bool
is_written z s = is_in_range z && bytes_eq (signed_decimal z) s

-- these characters are what such a number is written as
abbrev pub is_whole : List ℕ → Bool
is_whole s = is_written (signed_digits_value 10 s) s

-- a numeral that no such number is written as
abbrev pub is_kept : List ℕ → Bool
is_kept s = is_number s && not (is_whole s)
