-- Marked texts: strings begin with an `s`, and a numeral that is no plain whole number is a string that begins with an `n`.
use Rattle.std.specs.Prelude.{◌==◌, ℕ, List, [], ◌∷◌, if◌then◌else◌}
use Rattle.mw_numerals.specs.Numerals.{is_kept}
use Rattle.mw_numerals.specs.Pieces.{Piece, quoted, cut, run, other, IsRewritten}

-- the letters `s` and `n`
abbrev pub string_mark : ℕ
string_mark = 115

abbrev pub numeral_mark : ℕ
numeral_mark = 110

-- a piece as it is marked
abbrev pub marked : Piece → Piece
marked (quoted s) = quoted (string_mark ∷ s)
marked (cut s) = cut (string_mark ∷ s)
marked (run s) = if is_kept s then quoted (numeral_mark ∷ s) else run s
marked (other x) = other x

-- a piece of a marked text as it was before
abbrev pub unmarked : Piece → Piece
unmarked (quoted []) = quoted []
unmarked (quoted (x ∷ s)) =
    if x == string_mark then quoted s else (if x == numeral_mark then run s else quoted (x ∷ s))
unmarked (cut []) = cut []
unmarked (cut (x ∷ s)) = if x == string_mark then cut s else cut (x ∷ s)
unmarked (run s) = run s
unmarked (other x) = other x

-- the second text is the first one, marked
abbrev pub IsMarked : List ℕ → List ℕ → Type 0
IsMarked text result = IsRewritten marked text result

-- the second text is the first one without its marks
abbrev pub IsUnmarked : List ℕ → List ℕ → Type 0
IsUnmarked text result = IsRewritten unmarked text result
