-- The reading of a text.
use Rattle.std.specs.Prelude.{◌≡◌, ℕ, pos, List, Option, Some, option_map, IsUtf8}
use Rattle.serde_json.specs.Data as found
use Rattle.serde_json.specs.Read.{read}
use Rattle.mw_model.specs.Json.{Json, null, flag, whole, not_whole, words, many, members, Items, no_items, item, Members, no_members, member}

abbrev pub of_number : found.Num → Json
of_number (found.unsigned n) = whole (pos n)
of_number (found.negative z) = whole z
of_number (found.float x) = not_whole

abbrev mutual
  pub of_data : found.Data → Json
  of_data found.null = null
  of_data (found.boolean b) = flag b
  of_data (found.number n) = of_number n
  of_data (found.string s) = words s
  of_data (found.array ds) = many (of_items ds)
  of_data (found.object ms) = members (of_members ms)

  pub of_items : found.Items → Items
  of_items found.no_items = no_items
  of_items (found.item d ds) = item (of_data d) (of_items ds)

  pub of_members : found.Members → Members
  of_members found.no_members = no_members
  of_members (found.member k d ms) = member k (of_data d) (of_members ms)

-- what the crate reads in a text, with each number that is not whole made one
abbrev pub reading : List ℕ → Option Json
reading bytes = option_map of_data (read bytes)

-- the bytes are text, and this is its reading
pub record IsReading (bytes : List ℕ) (j : Json) : Type 0 where
  pub utf8 : IsUtf8 bytes
  pub is : reading bytes ≡ Some j

abbrev pub max_depth : ℕ
max_depth = 64
