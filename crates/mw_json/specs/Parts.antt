-- Lists of a stated length, ids, and values that may be null or absent.
use Rattle.std.specs.Prelude.{ℕ, ℤ, pos, zero, suc, ◌==◌, List, Option, Some, None, Result, Ok, if◌then◌else◌}
use Rattle.mw_model.specs.Json.{Json, null, flag, whole, not_whole, numeral, words, many, members, Items, no_items, item, Members, find_member}
use Rattle.mw_json.specs.Grammar.{Breach, ◌>>=◌, refused, under, number_at, list_at, items_length}
use Rattle.mw_json.specs.declared.refusal.Kind.TheVariants.{WrongKind}
use Rattle.mw_json.specs.declared.refusal.Step.TheVariants.{Name, Index}

-- an id, from 1 to 2^53 - 1
unfoldable pub id_at : Json → Result ℤ Breach
id_at j = do
  n ← number_at 1 9007199254740991 j
  Ok (pos n)

-- a list with at least one element
abbrev pub not_empty : Items → Result Items Breach
not_empty no_items = refused WrongKind
not_empty (item j js) = Ok (item j js)

-- a list of this many elements
unfoldable pub list_of_length : ℕ → Json → Result Items Breach
list_of_length count j = do
  js ← list_at j
  if items_length js == count then Ok js else refused WrongKind

-- the element at an index, null past the end
unfoldable pub item_at : ℕ → Items → Json
item_at n no_items = null
item_at zero (item j js) = j
item_at (suc n) (item j js) = item_at n js

-- what stands at an index, and how it is read
unfoldable pub element_at : {A : Type 0} → ℕ → (Json → Result A Breach) → Items → Result A Breach
element_at n at js = under (Index n) (at (item_at n js))

-- it is there
abbrev pub there : {A : Type 0} → Result A Breach → Result (Option A) Breach
there read = read >>= (λ x. Ok (Some x))

-- it may be null
abbrev pub null_or_at : {A : Type 0} → (Json → Result A Breach) → Json → Result (Option A) Breach
null_or_at at null = Ok None
null_or_at at (flag b) = there (at (flag b))
null_or_at at (whole z) = there (at (whole z))
null_or_at at not_whole = there (at not_whole)
null_or_at at (numeral s) = there (at (numeral s))
null_or_at at (words s) = there (at (words s))
null_or_at at (many js) = there (at (many js))
null_or_at at (members ms) = there (at (members ms))

-- it may be absent
abbrev pub read_if : {A : Type 0} → (Json → Result A Breach) → Option Json
    → Result (Option A) Breach
read_if at None = Ok None
read_if at (Some j) = there (at j)

-- what stands under a name, None where nothing does
unfoldable pub field_if_at : {A : Type 0} → List ℕ → (Json → Result A Breach) → Members
    → Result (Option A) Breach
field_if_at name at ms = read_if (λ j. under (Name name) (at j)) (find_member name ms)
