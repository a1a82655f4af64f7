-- What `multiplay` prints.
use Rattle.std.specs.Prelude.{ℕ, List, [], ◌∷◌, ◌++◌, codes, decimal, length}
use Rattle.std.specs.List.{flat_map}
use Rattle.mw_model.specs.Items.{NetItem}
use Rattle.mw_model.specs.Spelling.{number_text}

-- the item, its location, the player and the flags
abbrev pub item_line : NetItem → List ℕ
item_line i =
    number_text i.item ++ 32 ∷ number_text i.location ++ 32 ∷ decimal i.player ++ 32
    ∷ decimal i.flags ++ 10 ∷ []

-- how many items a list has, and a line for each
abbrev pub list_text : List NetItem → List ℕ
list_text list =
    codes "items " ++ decimal (length list) ++ 10 ∷ flat_map item_line list

-- behind a blank
abbrev pub behind_blank : List ℕ → List ℕ
behind_blank text = 32 ∷ text

-- joined by blanks
abbrev pub joined : List (List ℕ) → List ℕ
joined [] = []
joined (e ∷ es) = e ++ flat_map behind_blank es

-- the line of a client that was turned away for these errors
abbrev pub refusal_line : List (List ℕ) → List ℕ
refusal_line errors = codes "refused: " ++ joined errors ++ 10 ∷ []
