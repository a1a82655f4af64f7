-- The settings of a room, one by one.
use Rattle.std.specs.Prelude.{ℕ, List, Result, Ok, bytes_eq, codes, if◌then◌else◌}
use Rattle.mw_model.specs.Json.{Json}
use Rattle.mw_json.specs.Grammar.{Breach, ◌>>=◌, refused, text_at, short_text}
use Rattle.mw_json.specs.declared.refusal.Kind.TheVariants.{WrongKind}

-- a text of at most 128 characters
unfoldable pub password_at : Json → Result (List ℕ) Breach
password_at j = do
  s ← text_at j
  short_text 128 s

-- who may ask what is left, by its number in the protocol
abbrev pub remaining_of : List ℕ → Result ℕ Breach
remaining_of s =
    if bytes_eq s (codes "disabled") then Ok 0
    else (if bytes_eq s (codes "enabled") then Ok 1
    else (if bytes_eq s (codes "goal") then Ok 2 else refused WrongKind))

-- who may release or collect
abbrev pub permission_of : List ℕ → Result ℕ Breach
permission_of s =
    if bytes_eq s (codes "auto") then Ok 6
    else (if bytes_eq s (codes "auto_enabled") then Ok 7 else remaining_of s)

unfoldable pub remaining_at : Json → Result ℕ Breach
remaining_at j = do
  s ← text_at j
  remaining_of s

unfoldable pub permission_at : Json → Result ℕ Breach
permission_at j = do
  s ← text_at j
  permission_of s
