-- Kinds of values in the packets of clients.
use Rattle.std.specs.Prelude.{ℕ, ℤ, pos, List, Bool, Result, Ok, if◌then◌else◌}
use Rattle.mw_model.specs.Json.{Json, null, flag, whole, not_whole, numeral, words, many, members}
use Rattle.mw_protocol.specs.Connecting.{is_mask}
use Rattle.mw_json.specs.Grammar.{Breach, ◌>>=◌, refused, number_at, text_at, list_at}
use Rattle.mw_json.specs.Readers.{each_from}
use Rattle.mw_json.specs.declared.refusal.Kind.TheVariants.{WrongKind}
use Rattle.mw_packets_in.specs.Kept.{is_hint_status, is_client_status}

-- ---- single values

abbrev pub whole_at : Json → Result ℤ Breach
whole_at (whole z) = Ok z
whole_at null = refused WrongKind
whole_at (flag b) = refused WrongKind
whole_at not_whole = refused WrongKind
whole_at (numeral s) = refused WrongKind
whole_at (words s) = refused WrongKind
whole_at (many js) = refused WrongKind
whole_at (members ms) = refused WrongKind

abbrev pub flag_at : Json → Result Bool Breach
flag_at (flag b) = Ok b
flag_at null = refused WrongKind
flag_at (whole z) = refused WrongKind
flag_at not_whole = refused WrongKind
flag_at (numeral s) = refused WrongKind
flag_at (words s) = refused WrongKind
flag_at (many js) = refused WrongKind
flag_at (members ms) = refused WrongKind

-- any value
abbrev pub any_at : Json → Result Json Breach
any_at j = Ok j

-- ---- numbers that name something

-- which items a session wants to hear of
unfoldable pub mask_at : Json → Result ℕ Breach
mask_at j = do
  n ← number_at 0 255 j
  if is_mask (pos n) then Ok n else refused WrongKind

-- a hint's status
unfoldable pub hint_status_at : Json → Result ℕ Breach
hint_status_at j = do
  n ← number_at 0 255 j
  if is_hint_status n then Ok n else refused WrongKind

-- a slot's status
unfoldable pub client_status_at : Json → Result ℕ Breach
client_status_at j = do
  n ← number_at 0 255 j
  if is_client_status n then Ok n else refused WrongKind

-- ---- lists

-- each element is a text
unfoldable pub texts_at : Json → Result (List (List ℕ)) Breach
texts_at j = do
  js ← list_at j
  each_from text_at 0 js

-- each element is a whole number
unfoldable pub wholes_at : Json → Result (List ℤ) Breach
wholes_at j = do
  js ← list_at j
  each_from whole_at 0 js
