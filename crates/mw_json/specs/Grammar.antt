-- Grammars of JSON files: a value, or the first breach with the steps that lead outward from it.
use Rattle.std.specs.Prelude.{◌≡◌, ◌==◌, ◌||◌, ◌&&◌, ◌+◌, ℕ, pos, negsuc, List, [], ◌∷◌, ◌++◌, Bool, false, Option, Some, None, Result, Ok, Err, nat_le, nat_lt, length, chars, if◌then◌else◌}
use Rattle.mw_model.specs.Json.{Json, null, flag, whole, not_whole, numeral, words, many, members, Items, no_items, item, Members, find_member}
use Rattle.mw_json.specs.declared.refusal.Kind.{Kind}
use Rattle.mw_json.specs.declared.refusal.Kind.TheVariants.{MissingField, NotWhole, WrongKind, TooMany, NameTooLong}
use Rattle.mw_json.specs.declared.refusal.Step.{Step}
use Rattle.mw_json.specs.declared.refusal.Step.TheVariants.{Name}
use Rattle.mw_json.specs.declared.refusal.Refusal.{Refusal}
use Rattle.mw_json.specs.declared.refusal.Refusal.TheVariants.{Memory, Named}

-- what is wrong, and the steps from there outward
pub record Breach : Type 0 where
  pub kind : Kind
  pub path : List Step

infixl 10 ◌>>=◌
abbrev pub ◌>>=◌ : {A B : Type 0} → Result A Breach → (A → Result B Breach) → Result B Breach
(Ok x) >>= f = f x
(Err e) >>= f = Err e

-- refused, at the value itself
abbrev pub refused : {A : Type 0} → Kind → Result A Breach
refused kind = Err record { kind = kind; path = [] }

-- the same of a value one step further in
abbrev pub under : {A : Type 0} → Step → Result A Breach → Result A Breach
under step (Ok x) = Ok x
under step (Err b) = Err record { kind = b.kind; path = b.path ++ step ∷ [] }

-- the answer, seen by view, is what the grammar gives, unless memory ran out
abbrev pub GivesBy : {X A : Type 0} → (X → A) → Result X Refusal → Result A Breach → Type 0
GivesBy view (Ok x) read = read ≡ Ok (view x)
GivesBy view (Err Memory) read = Unit {0}
GivesBy view (Err (Named kind path)) read = read ≡ Err record { kind = kind; path = path }

abbrev pub Gives : {A : Type 0} → Result A Refusal → Result A Breach → Type 0
Gives answer read = GivesBy (λ x. x) answer read

-- any value of another kind than the one wanted
abbrev pub other_kind : {A : Type 0} → Json → Result A Breach
other_kind not_whole = refused NotWhole
other_kind (numeral s) = refused WrongKind
other_kind null = refused WrongKind
other_kind (flag b) = refused WrongKind
other_kind (whole z) = refused WrongKind
other_kind (words s) = refused WrongKind
other_kind (many js) = refused WrongKind
other_kind (members ms) = refused WrongKind

-- a whole number from low to high
abbrev pub number_at : ℕ → ℕ → Json → Result ℕ Breach
number_at low high (whole (pos n)) =
    if nat_le low n && nat_le n high then Ok n else refused WrongKind
number_at low high (whole (negsuc n)) = refused WrongKind
number_at low high not_whole = refused NotWhole
number_at low high (numeral s) = refused WrongKind
number_at low high null = refused WrongKind
number_at low high (flag b) = refused WrongKind
number_at low high (words s) = refused WrongKind
number_at low high (many js) = refused WrongKind
number_at low high (members ms) = refused WrongKind

abbrev pub text_at : Json → Result (List ℕ) Breach
text_at (words s) = Ok s
text_at not_whole = refused NotWhole
text_at (numeral s) = refused WrongKind
text_at null = refused WrongKind
text_at (flag b) = refused WrongKind
text_at (whole z) = refused WrongKind
text_at (many js) = refused WrongKind
text_at (members ms) = refused WrongKind

abbrev pub list_at : Json → Result Items Breach
list_at (many js) = Ok js
list_at not_whole = refused NotWhole
list_at (numeral s) = refused WrongKind
list_at null = refused WrongKind
list_at (flag b) = refused WrongKind
list_at (whole z) = refused WrongKind
list_at (words s) = refused WrongKind
list_at (members ms) = refused WrongKind

abbrev pub object_at : Json → Result Members Breach
object_at (members ms) = Ok ms
object_at not_whole = refused NotWhole
object_at (numeral s) = refused WrongKind
object_at null = refused WrongKind
object_at (flag b) = refused WrongKind
object_at (whole z) = refused WrongKind
object_at (words s) = refused WrongKind
object_at (many js) = refused WrongKind

-- a text of at most this many characters
abbrev pub short_text : ℕ → List ℕ → Result (List ℕ) Breach
short_text most s = if nat_le (length (chars s)) most then Ok s else refused NameTooLong

-- some character is below U+0020
abbrev pub has_control : List ℕ → Bool
has_control [] = false
has_control (b ∷ bs) = nat_lt b 32 || has_control bs

-- a name: not empty, no control character, at most this many characters
abbrev pub name_of : ℕ → List ℕ → Result (List ℕ) Breach
name_of most s = if (length s == 0) || has_control s then refused WrongKind else short_text most s

unfoldable pub name_at : ℕ → Json → Result (List ℕ) Breach
name_at most j = do
  s ← text_at j
  name_of most s

-- a list of at most this many elements
abbrev pub items_length : Items → ℕ
items_length no_items = 0
items_length (item j js) = 1 + items_length js

unfoldable pub list_up_to : ℕ → Json → Result Items Breach
list_up_to most j = do
  js ← list_at j
  if nat_le (items_length js) most then Ok js else refused TooMany

-- the member of a name that has to be there
abbrev pub found_or_missing : Option Json → Result Json Breach
found_or_missing (Some j) = Ok j
found_or_missing None = refused MissingField

abbrev pub member_at : List ℕ → Members → Result Json Breach
member_at name ms = under (Name name) (found_or_missing (find_member name ms))

-- what stands under a name, and how it is read
unfoldable pub field_at : {A : Type 0} → List ℕ → (Json → Result A Breach) → Members
    → Result A Breach
field_at name read ms = do
  found ← member_at name ms
  under (Name name) (read found)
