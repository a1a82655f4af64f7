-- Slots by number, and items' classes.
use Rattle.std.specs.Prelude.{ℕ, ◌==◌, Result, Ok, if◌then◌else◌}
use Rattle.mw_model.specs.Json.{Json}
use Rattle.mw_json.specs.Grammar.{Breach, ◌>>=◌, refused, number_at}
use Rattle.mw_json.specs.declared.refusal.Kind.TheVariants.{WrongKind}

-- the number of a slot that there may be
abbrev pub slot_number_at : Json → Result ℕ Breach
slot_number_at j = number_at 1 1024 j

-- an item's class: 0, 1, 2 or 4
unfoldable pub flags_at : Json → Result ℕ Breach
flags_at j = do
  n ← number_at 0 4 j
  if n == 3 then refused WrongKind else Ok n
