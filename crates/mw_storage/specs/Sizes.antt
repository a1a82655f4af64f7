-- How long the compact text of a value is, part by part.
use Rattle.std.specs.Prelude.{ℕ, ◌+◌, max, List, true, false, length}
use Rattle.json.specs.Print.{escape}
use Rattle.mw_model.specs.Json.{Json, null, flag, whole, not_whole, numeral, words, many, members, Items, no_items, item, Members, no_members, member}
use Rattle.mw_model.specs.Spelling.{number_text}

-- a text in quotes
abbrev pub quoted_size : List ℕ → ℕ
quoted_size s = length (escape s) + 2

-- behind each element stands a comma or the bracket
abbrev mutual
  pub size : Json → ℕ
  size null = 4
  size (flag true) = 4
  size (flag false) = 5
  size (whole z) = length (number_text z)
  size not_whole = 4
  size (numeral s) = length s
  size (words s) = quoted_size s
  size (many js) = 1 + max 1 (items_size js)
  size (members ms) = 1 + max 1 (members_size ms)

  pub items_size : Items → ℕ
  items_size no_items = 0
  items_size (item j js) = size j + 1 + items_size js

  pub members_size : Members → ℕ
  members_size no_members = 0
  members_size (member k j ms) = quoted_size k + 1 + size j + 1 + members_size ms
