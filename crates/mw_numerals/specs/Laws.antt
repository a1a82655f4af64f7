-- What holds of marked texts.
use Rattle.std.specs.Prelude.{◌≡◌, ◌≢◌, ◌↔◌, ℕ, ℤ, List, IsUtf8, true}
use Rattle.std.specs.Fmt.{signed_decimal}
use Rattle.json.specs.Print.{IsNumber}
use Rattle.mw_numerals.specs.Marks.{IsMarked, IsUnmarked}
use Rattle.mw_numerals.specs.Numerals.{is_in_range, is_kept}
use Rattle.mw_numerals.specs.Pieces.{Piece, IsRewritten}

-- a text has its pieces in one way, so changing them gives one text
abbrev pub ChangesInOneWay : Type 0
ChangesInOneWay =
    (change : Piece → Piece) (text one other : List ℕ)
    → IsRewritten change text one → IsRewritten change text other → one ≡ other

-- without its marks a marked text is what it was before
abbrev pub ComesBack : Type 0
ComesBack =
    (text marked back : List ℕ) → IsMarked text marked → IsUnmarked marked back → back ≡ text

-- no two texts are marked the same
abbrev pub StaysApart : Type 0
StaysApart =
    (one other marked : List ℕ) → IsMarked one marked → IsMarked other marked → one ≡ other

-- a text that is UTF-8 is so once it is marked
abbrev pub StaysText : Type 0
StaysText = (text marked : List ℕ) → IsMarked text marked → IsUtf8 text → IsUtf8 marked

-- a number of RFC 8259 is kept as its characters exactly where no whole number from -2^63 to 2^64 - 1 is written so
abbrev pub TellsNumerals : Type 0
TellsNumerals =
    (s : List ℕ) → (is_kept s ≡ true)
    ↔ (IsNumber s × ((z : ℤ) → is_in_range z ≡ true → signed_decimal z ≢ s))
