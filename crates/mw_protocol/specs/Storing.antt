-- What a Set and a SetNotify do.
use Rattle.std.specs.Prelude.{ℕ, ◌++◌, ◌||◌, ◌∷◌, [], List, Bool, false, Option, Some, None, Result, Ok, Err, codes, decimal, length, nat_le, if◌then◌else◌}
use Rattle.mw_model.specs.Json.{Json}
use Rattle.mw_model.specs.Sets.{SetPacket}
use Rattle.mw_model.specs.Texts.{has_text}
use Rattle.mw_protocol.specs.Connecting.{Member}
use Rattle.mw_protocol.specs.Effect.{Effect, answering, recording}
use Rattle.mw_protocol.specs.Equal.{json_eq}
use Rattle.mw_protocol.specs.Further.{others}
use Rattle.mw_protocol.specs.Heard.{watchers_hear}
use Rattle.mw_protocol.specs.Messages.{SetReply, invalid_packet, set_reply}
use Rattle.mw_protocol.specs.Packets.{Bad, bad_arguments}
use Rattle.mw_protocol.specs.Records.{Record, store}
use Rattle.mw_protocol.specs.Standing.{Standing}
use Rattle.mw_protocol.specs.Storage.{Kept, Refused, private_key, bad_operation_at, out_of_range_at, store_full, Changed, is_private, value_of, set_case}

-- ---- Set

abbrev pub refused_text : Refused → List ℕ
refused_text private_key = codes "private key"
refused_text (bad_operation_at place) =
    codes "operation " ++ decimal place ++ codes ": bad operation"
refused_text (out_of_range_at place) = codes "operation " ++ decimal place ++ codes ": out of range"
refused_text (store_full bytes keys) = codes "store full: " ++ decimal bytes

abbrev pub refused_by : Refused → Bad
refused_by r = record { kind = bad_arguments; cmd = Some (codes "Set"); why = refused_text r }

abbrev pub is_kept : Json → Option Json → Bool
is_kept new None = false
is_kept new (Some old) = json_eq old new

-- where the key is new, or its value another
abbrev pub store_records : List Kept → List ℕ → Json → List Record
store_records kept key new = if is_kept new (value_of key kept) then [] else store key new ∷ []

-- the answer has these members of its own, which stand in place of further ones
abbrev pub reply_names : List (List ℕ)
reply_names = codes "original_value" ∷ codes "slot" ∷ codes "value" ∷ []

abbrev pub reply_to : Member → SetPacket → Changed → SetReply
reply_to m set c =
    record {
      key = set.key;
      value = c.new;
      original_value = c.old;
      slot = m.slot;
      further = others reply_names set.further;
    }

-- a change is told to who watches its key, and to the sender where it asks for that; why it is refused to the sender
abbrev pub storing : Standing → Member → SetPacket → Result Changed Refused → Effect
storing now m set (Err r) = answering (invalid_packet (refused_by r))
storing now m set (Ok c) =
    recording (store_records now.storage set.key c.new)
    (record {
      audience = watchers_hear set.key set.want_reply;
      packet = set_reply (reply_to m set c);
    } ∷ [])

abbrev pub changing : Standing → Member → SetPacket → Effect
changing now m set = storing now m set (set_case now.storage set)

-- ---- SetNotify

-- a key that is read alone, one that is watched already, and all above 1,024
abbrev pub is_passed_over : List (List ℕ) → List ℕ → Bool
is_passed_over keys key = is_private key || has_text keys key || nat_le 1024 (length keys)

-- the watched keys with others, in order
abbrev pub watched : List (List ℕ) → List (List ℕ) → List (List ℕ)
watched keys [] = keys
watched keys (k ∷ ks) = watched (if is_passed_over keys k then keys else keys ++ k ∷ []) ks

abbrev pub with_keys : List (List ℕ) → Member → Member
with_keys keys m =
    record { team = m.team; slot = m.slot; mask = m.mask; tags = m.tags; keys = keys }

-- the session is told of changes of these keys too
abbrev pub watching : Member → List (List ℕ) → Effect
watching m keys =
    record {
      records = [];
      answers = [];
      whole = false;
      member = Some (with_keys (watched m.keys keys) m);
      announced = [];
    }
