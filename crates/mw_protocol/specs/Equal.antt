-- Whether two values are the same.
use Rattle.std.specs.Prelude.{◌&&◌, Bool, true, false, not, bytes_eq, if◌then◌else◌}
use Rattle.std.specs.Ordering.{int_eq}
use Rattle.mw_model.specs.Json.{Json, null, flag, whole, not_whole, numeral, words, many, members, Items, no_items, item, Members, no_members, member}

-- part by part
abbrev mutual
  pub json_eq : Json → Json → Bool
  json_eq null null = true
  json_eq (flag a) (flag b) = if a then b else not b
  json_eq (whole a) (whole b) = int_eq a b
  json_eq not_whole not_whole = true
  json_eq (numeral a) (numeral b) = bytes_eq a b
  json_eq (words a) (words b) = bytes_eq a b
  json_eq (many js) (many ks) = items_eq js ks
  json_eq (members ms) (members ns) = members_eq ms ns
  json_eq _ _ = false

  pub items_eq : Items → Items → Bool
  items_eq no_items no_items = true
  items_eq (item j js) (item k ks) = json_eq j k && items_eq js ks
  items_eq _ _ = false

  pub members_eq : Members → Members → Bool
  members_eq no_members no_members = true
  members_eq (member k j ms) (member l i ns) = bytes_eq k l && json_eq j i && members_eq ms ns
  members_eq _ _ = false
