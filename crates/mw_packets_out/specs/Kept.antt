-- What packets keep that hold values of clients, and prints.
use Rattle.std.specs.Prelude.{ℕ, List, [], ◌∷◌, All, IfSome, codes}
use Rattle.mw_model.specs.Json.{Json, IsInRange, IsWritable, IsOrdered, members}
use Rattle.mw_model.specs.Passed.{AreFurther}
use Rattle.mw_protocol.specs.Messages.{PrintJson, Retrieved, SetReply, print_json}
use Rattle.mw_protocol.specs.Packets.{Bounce}

-- it is written, and read again as it stands
pub record IsSound (j : Json) : Type 0 where
  pub writable : IsWritable j
  pub ordered : IsOrdered j

-- the print's object is in byte order: its further members stand between `data` and `type`
abbrev pub IsPrint : PrintJson → Type 0
IsPrint print = IsSound (print_json print)

-- ---- members that a packet has of its own

abbrev pub retrieved_names : List (List ℕ)
retrieved_names = codes "cmd" ∷ codes "keys" ∷ []

abbrev pub set_reply_names : List (List ℕ)
set_reply_names =
    codes "cmd" ∷ codes "key" ∷ codes "original_value" ∷ codes "slot" ∷ codes "value" ∷ []

abbrev pub bounced_names : List (List ℕ)
bounced_names = codes "cmd" ∷ codes "games" ∷ codes "tags" ∷ codes "slots" ∷ []

-- ---- packets

pub record IsRetrieved (packet : Retrieved) : Type 0 where
  pub keys : IsSound (members packet.keys)
  pub further : AreFurther retrieved_names packet.further

pub record IsSetReply (packet : SetReply) : Type 0 where
  pub value : IsSound packet.value
  pub original_value : IsSound packet.original_value
  pub further : AreFurther set_reply_names packet.further

pub record IsBounced (packet : Bounce) : Type 0 where
  pub slots : IfSome packet.slots (All IsInRange)
  pub further : AreFurther bounced_names packet.further
