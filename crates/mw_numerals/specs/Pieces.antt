-- A text in pieces: its strings, the numerals' characters between them, and each other byte.
use Rattle.std.specs.Prelude.{◌≡◌, ◌==◌, ◌&&◌, ℕ, List, [], ◌∷◌, ◌++◌, map, Bool, true, false, not}
use Rattle.std.specs.List.{list_all, flat_map}
use Rattle.json.specs.Ascii as ascii
use Rattle.mw_numerals.specs.Numerals.{is_numeral_byte}

pub data Piece : Type 0 where
  -- a string, of which these bytes stand between the quotes
  quoted : List ℕ → Piece
  -- a string that the end of the text cuts off, after its opening quote
  cut : List ℕ → Piece
  -- characters of numerals
  run : List ℕ → Piece
  -- any other byte
  other : ℕ → Piece

-- the bytes of a piece
abbrev pub piece_text : Piece → List ℕ
piece_text (quoted s) = ascii.quote ∷ (s ++ ascii.quote ∷ [])
piece_text (cut s) = ascii.quote ∷ s
piece_text (run s) = s
piece_text (other x) = x ∷ []

abbrev pub text_of : List Piece → List ℕ
text_of pieces = flat_map piece_text pieces

-- a backslash escapes the byte after it, unless it is escaped itself
abbrev pub escapes : Bool → ℕ → Bool
escapes escaped x = not escaped && (x == ascii.backslash)

-- a quote ends a string, unless it is escaped
abbrev pub closes : Bool → ℕ → Bool
closes escaped x = not escaped && (x == ascii.quote)

-- whether the byte after these is escaped, the first of which is, or is not
abbrev pub escaped_after : Bool → List ℕ → Bool
escaped_after escaped [] = escaped
escaped_after escaped (x ∷ xs) = escaped_after (escapes escaped x) xs

-- no quote among these bytes ends a string
abbrev pub has_no_end : Bool → List ℕ → Bool
has_no_end escaped [] = true
has_no_end escaped (x ∷ xs) = not (closes escaped x) && has_no_end (escapes escaped x) xs

-- whether a text begins with a character of numerals
abbrev pub begins_run : List ℕ → Bool
begins_run [] = false
begins_run (x ∷ xs) = is_numeral_byte x

-- What a piece is: a string has no quote inside that isn't escaped, and its closing quote isn't.
abbrev pub IsPiece : Piece → Type 0
IsPiece (quoted s) = (has_no_end false s ≡ true) × (escaped_after false s ≡ false)
IsPiece (cut s) = has_no_end false s ≡ true
IsPiece (run s) = (begins_run s ≡ true) × (list_all is_numeral_byte s ≡ true)
IsPiece (other x) = ((x == ascii.quote) ≡ false) × (is_numeral_byte x ≡ false)

-- It ends where this rest begins: a string without a closing quote goes to the end, and a run as far as there are such characters.
abbrev pub EndsBefore : List ℕ → Piece → Type 0
EndsBefore rest (quoted s) = Unit {0}
EndsBefore rest (cut s) = rest ≡ []
EndsBefore rest (run s) = begins_run rest ≡ false
EndsBefore rest (other x) = Unit {0}

-- these are the pieces of a text, in their order
abbrev pub ArePieces : List Piece → Type 0
ArePieces [] = Unit {0}
ArePieces (p ∷ ps) = IsPiece p × EndsBefore (text_of ps) p × ArePieces ps

-- one text is the other with each of its pieces changed
pub record IsRewritten (change : Piece → Piece) (before after : List ℕ) : Type 0 where
  pub pieces : List Piece
  pub are : ArePieces pieces
  pub before_is : text_of pieces ≡ before
  pub after_is : text_of (map change pieces) ≡ after
