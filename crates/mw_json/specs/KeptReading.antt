-- The kept reading of a text, over its tokens: a numeral that is no plain whole number stands as its characters.
use Rattle.std.specs.Prelude.{◌≡◌, ℕ, List, Option, Some, option_map, option_and_then, IsUtf8, if◌then◌else◌}
use Rattle.std.specs.Str.Parse.{signed_digits_value}
use Rattle.json.specs.Json as json
use Rattle.json.specs.Lex.{tokens}
use Rattle.mw_model.specs.Json.{Json, null, flag, whole, numeral, words, many, members, Items, no_items, item, Members, no_members}
use Rattle.mw_model.specs.Trees.{set_member}
use Rattle.mw_numerals.specs.Numerals.{is_whole}

-- what a whole number from -2^63 to 2^64 - 1 is written as, or else characters
abbrev pub kept_number : List ℕ → Json
kept_number s = if is_whole s then whole (signed_digits_value 10 s) else numeral s

-- the last of the members that have one name, in byte order of their names
abbrev mutual
  pub kept_value : json.Json → Json
  kept_value json.null = null
  kept_value (json.boolean b) = flag b
  kept_value (json.number s) = kept_number s
  kept_value (json.string s) = words s
  kept_value (json.array js) = many (kept_items js)
  kept_value (json.object ms) = members (kept_members ms no_members)

  pub kept_items : json.Items → Items
  kept_items json.no_items = no_items
  kept_items (json.item j js) = item (kept_value j) (kept_items js)

  pub kept_members : json.Members → Members → Members
  kept_members json.no_members done = done
  kept_members (json.member k j ms) done = kept_members ms (set_member k (kept_value j) done)

-- lists and objects nest no deeper than `serde_json` reads them
abbrev pub levels : ℕ
levels = 127

-- the value that a text's tokens are
abbrev pub value_in : List ℕ → Option json.Json
value_in bytes =
    option_and_then (λ p. json.if_last p.0 p.1) (json.value levels (tokens bytes))

abbrev pub kept_reading : List ℕ → Option Json
kept_reading bytes = option_map kept_value (value_in bytes)

-- the bytes are text, and this is its kept reading
pub record IsKeptReading (bytes : List ℕ) (j : Json) : Type 0 where
  pub utf8 : IsUtf8 bytes
  pub is : kept_reading bytes ≡ Some j
