-- What a marked text is read as.
use Rattle.std.specs.Prelude.{◌≡◌, ℕ, List, [], ◌∷◌, Some, if◌then◌else◌}
use Rattle.json.specs.Json.{Json, null, boolean, number, string, array, object, Items, no_items, item, Members, no_members, member, value}
use Rattle.json.specs.Lex.{tokens}
use Rattle.mw_numerals.specs.Marks.{string_mark, numeral_mark, IsMarked}
use Rattle.mw_numerals.specs.Numerals.{is_kept}

-- strings and names with the letter of strings, and numerals that are kept as strings with their own letter
abbrev mutual
  pub marked_value : Json → Json
  marked_value null = null
  marked_value (boolean b) = boolean b
  marked_value (number s) = if is_kept s then string (numeral_mark ∷ s) else number s
  marked_value (string s) = string (string_mark ∷ s)
  marked_value (array js) = array (marked_items js)
  marked_value (object ms) = object (marked_members ms)

  pub marked_items : Items → Items
  marked_items no_items = no_items
  marked_items (item j js) = item (marked_value j) (marked_items js)

  pub marked_members : Members → Members
  marked_members no_members = no_members
  marked_members (member k j ms) = member (string_mark ∷ k) (marked_value j) (marked_members ms)

-- the marked text of a value, however deep it nests, is a text of the marked value
abbrev pub IsReadMarked : Type 0
IsReadMarked =
    (text marked : List ℕ) (depth : ℕ) (j : Json) → IsMarked text marked
    → value depth (tokens text) ≡ Some (j, []) → value depth (tokens marked) ≡ Some (marked_value j, [])
