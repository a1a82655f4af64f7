-- What a word tells of the numbers that stand at a place.
use Rattle.std.specs.Prelude.{ℕ, List, [], ◌∷◌, nat_lt, if◌then◌else◌}

-- the word of a place where nothing stands
abbrev pub nothing : ℕ
nothing = 4294967295

-- the word of a place whose numbers stand in a list alone
abbrev pub listed : ℕ
listed = 4294967294

-- the word of a list: of a lone number it's the number itself, unless that is one of the two above
abbrev pub word_of : List ℕ → ℕ
word_of [] = nothing
word_of (n ∷ []) = if nat_lt n listed then n else listed
word_of (n ∷ m ∷ ns) = listed
