-- What a Get is answered.
use Rattle.std.specs.Prelude.{ℕ, pos, ◌==◌, ◌&&◌, ◌∷◌, [], List, Bool, Option, Some, None, codes, decimal, bytes_eq, length, take, drop, nat_lt, is_some, map, if◌then◌else◌}
use Rattle.std.specs.List.{position_or_len, before_first, after_first}
use Rattle.std.specs.Str.Parse.{digits_value}
use Rattle.mw_model.specs.Json.{Json, null, flag, whole, words, many, members, Members, no_members, member}
use Rattle.mw_model.specs.Seed.{Seed, slot_of}
use Rattle.mw_model.specs.Trees.{items_of}
use Rattle.mw_protocol.specs.Connecting.{Player}
use Rattle.mw_protocol.specs.Effect.{Effect, answering}
use Rattle.mw_protocol.specs.Hints.{ToldHint, told_hints}
use Rattle.mw_protocol.specs.Messages.{retrieved}
use Rattle.mw_protocol.specs.Operations.{set_member}
use Rattle.mw_protocol.specs.Standing.{Standing, is_checked, status_in}
use Rattle.mw_protocol.specs.Storage.{is_private, value_of}

-- ---- whom a key that is read alone names

-- the number below 65,536 that a text says in decimal, without leading zeros
abbrev pub numbered : List ℕ → Option ℕ
numbered text =
    if nat_lt (digits_value 10 text) 65536 && bytes_eq (decimal (digits_value 10 text)) text
    then Some (digits_value 10 text) else None

abbrev pub player_with : Seed → Option ℕ → Option ℕ → Option Player
player_with seed None slot = None
player_with seed (Some team) None = None
player_with seed (Some team) (Some slot) =
    if nat_lt team seed.teams && is_some (slot_of seed slot)
    then Some record { team = team; slot = slot } else None

abbrev pub is_underscore : ℕ → Bool
is_underscore b = b == 95

-- a team and a slot that are there, with an underscore between them
abbrev pub player_at : Seed → List ℕ → Option Player
player_at seed text =
    if nat_lt (position_or_len is_underscore text) (length text)
    then player_with seed (numbered (before_first is_underscore text))
    (numbered (after_first is_underscore text))
    else None

-- ---- values

abbrev pub hint_json : ToldHint → Json
hint_json h =
    members (member (codes "class") (words (codes "Hint"))
    (member (codes "entrance") (words [])
    (member (codes "finding_player") (whole (pos h.finding_player))
    (member (codes "found") (flag h.found)
    (member (codes "item") (whole h.item)
    (member (codes "item_flags") (whole (pos h.item_flags))
    (member (codes "location") (whole h.location)
    (member (codes "receiving_player") (whole (pos h.receiving_player))
    (member (codes "status") (whole (pos h.status)) no_members)))))))))

-- the hints of a player, in the order in which they were made
abbrev pub hints_of : Seed → Standing → Option Player → Json
hints_of seed now None = null
hints_of seed now (Some p) =
    many (items_of (map hint_json (told_hints seed (is_checked now) p.team p.slot now.hints)))

abbrev pub status_of : Standing → Option Player → Json
status_of now None = null
status_of now (Some p) = whole (pos (status_in now p.team p.slot))

-- what is read alone: a player's hints and its status
abbrev pub private_value : Seed → Standing → List ℕ → Json
private_value seed now key =
    if bytes_eq (take 12 key) (codes "_read_hints_")
    then hints_of seed now (player_at seed (drop 12 key))
    else (if bytes_eq (take 20 key) (codes "_read_client_status_")
    then status_of now (player_at seed (drop 20 key))
    else null)

abbrev pub or_null : Option Json → Json
or_null None = null
or_null (Some j) = j

abbrev pub read_value : Seed → Standing → List ℕ → Json
read_value seed now key =
    if is_private key then private_value seed now key else or_null (value_of key now.storage)

-- ---- Get

-- each key with its value set in turn, so that each stands once, in byte order
abbrev pub with_values : Seed → Standing → Members → List (List ℕ) → Members
with_values seed now ms [] = ms
with_values seed now ms (k ∷ ks) = with_values seed now (set_member k (read_value seed now k) ms) ks

abbrev pub reading : Seed → Standing → List (List ℕ) → Members → Effect
reading seed now keys further =
    answering (retrieved record { keys = with_values seed now no_members keys; further = further })
