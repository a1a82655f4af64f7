-- The bodies of a save file: each puts entries behind a list of items, or in its place.
use Rattle.std.specs.Prelude.{◌≡◌, ◌<◌, ◌≤◌, ◌^◌, ℕ, ℤ, List, [], ◌∷◌, ◌++◌, Bool, true, false, length, FitsSigned, if◌then◌else◌}
use Rattle.std.specs.Int.{w16, w32, w64, cast_unsigned, to_be_bytes}
use Rattle.std.specs.List.{flat_map, AllByRecursion}
use Rattle.mw_model.specs.Items.{NetItem}

-- whether it replaces the list, and its entries
pub record Body : Type 0 where
  pub replaces : Bool
  pub items : List NetItem

-- ---- as bytes, a number's highest byte first

-- 64 bits in two's complement
unfoldable pub long_bytes : ℤ → List ℕ
long_bytes z = to_be_bytes w64 (cast_unsigned w64 z)

-- 16 bits
unfoldable pub short_bytes : ℕ → List ℕ
short_bytes n = to_be_bytes w16 n

-- the item, its location, the player and the flags
abbrev pub entry_bytes : NetItem → List ℕ
entry_bytes i = long_bytes i.item ++ long_bytes i.location ++ short_bytes i.player ++ i.flags ∷ []

abbrev pub kind_byte : Bool → ℕ
kind_byte true = 1
kind_byte false = 0

-- a kind, how many entries in four bytes, and then each
abbrev pub body_bytes : Body → List ℕ
body_bytes b =
    kind_byte b.replaces ∷ to_be_bytes w32 (length b.items) ++ flat_map entry_bytes b.items

-- ---- what has bytes

-- each number is in its range
pub record IsEntry (i : NetItem) : Type 0 where
  pub item : FitsSigned w64 i.item
  pub location : FitsSigned w64 i.location
  pub player : i.player < 2 ^ 16
  pub flags : i.flags < 2 ^ 8

-- fewer than 2^32 entries, and at least one where they are put behind the list
pub record IsBody (b : Body) : Type 0 where
  pub few : length b.items < 2 ^ 32
  pub some : b.replaces ≡ false → 1 ≤ length b.items
  pub entries : AllByRecursion IsEntry b.items

-- ---- the list that they come to

abbrev pub after_body : List NetItem → Body → List NetItem
after_body list b = if b.replaces then b.items else list ++ b.items

-- the list after all bodies, one after another
abbrev pub saved : List NetItem → List Body → List NetItem
saved list [] = list
saved list (b ∷ bs) = saved (after_body list b) bs

-- bytes that are whole bodies lead from one list to another
pub record Leads (before : List NetItem) (bytes : List ℕ) (after : List NetItem) : Type 0 where
  pub bodies : List Body
  pub layout : bytes ≡ flat_map body_bytes bodies
  pub are : AllByRecursion IsBody bodies
  pub list : after ≡ saved before bodies

-- the bytes of a save file's bodies stand for a list
abbrev pub IsSaved : List ℕ → List NetItem → Type 0
IsSaved bytes list = Leads [] bytes list

-- a body begins a text
pub record Begins (bytes : List ℕ) (b : Body) : Type 0 where
  pub is : IsBody b
  pub rest : List ℕ
  pub layout : bytes ≡ body_bytes b ++ rest
