-- The compact text of a tree, over the tokens of the crate `json`.
use Rattle.std.specs.Prelude.{ℕ, ℤ, pos, negsuc, List, decimal}
use Rattle.std.specs.Fmt.{signed_decimal}
use Rattle.json.specs.Json as json
use Rattle.json.specs.Tree.{json_tokens}
use Rattle.json.specs.Print.{print}
use Rattle.mw_model.specs.Json.{Json, null, flag, whole, not_whole, numeral, words, many, members, Items, no_items, item, Members, no_members, member}

abbrev pub number_text : ℤ → List ℕ
number_text (pos n) = decimal n
number_text (negsuc n) = signed_decimal (negsuc n)

abbrev mutual
  pub outline : Json → json.Json
  outline null = json.null
  outline (flag b) = json.boolean b
  outline (whole z) = json.number (number_text z)
  outline not_whole = json.null
  outline (numeral s) = json.number s
  outline (words s) = json.string s
  outline (many js) = json.array (items_outline js)
  outline (members ms) = json.object (members_outline ms)

  pub items_outline : Items → json.Items
  items_outline no_items = json.no_items
  items_outline (item j js) = json.item (outline j) (items_outline js)

  pub members_outline : Members → json.Members
  members_outline no_members = json.no_members
  members_outline (member k j ms) = json.member k (outline j) (members_outline ms)

-- no white space, members in order, the crate's escapes
abbrev pub spelling : Json → List ℕ
spelling j = print (json_tokens (outline j))
