-- What a client asks for, after Archipelago's network protocol.
use Rattle.std.specs.Prelude.{ℕ, ℤ, List, Option}
use Rattle.mw_model.specs.Json.{Members}
use Rattle.mw_model.specs.Sets.{SetPacket}

pub record Version : Type 0 where
  pub major : ℤ
  pub minor : ℤ
  pub build : ℤ

-- a session wants to play a slot
pub record Connect : Type 0 where
  pub name : List ℕ
  pub password : Option (List ℕ)
  pub game : Option (List ℕ)
  pub version : Version
  pub items_handling : Option ℤ
  pub tags : Option (List (List ℕ))

-- a session wants other items, or has other tags
pub record ConnectUpdate : Type 0 where
  pub items_handling : Option ℕ
  pub tags : Option (List (List ℕ))

-- the hint of a location of a finder gets another status, where one is given
pub record UpdateHint : Type 0 where
  pub player : ℤ
  pub location : ℤ
  pub status : Option ℕ

-- a message for those whose game, slot or tag is among these, with further members
pub record Bounce : Type 0 where
  pub games : Option (List (List ℕ))
  pub tags : Option (List (List ℕ))
  pub slots : Option (List ℤ)
  pub further : Members

pub data Packet : Type 0 where
  connect : Connect → Packet
  connect_update : ConnectUpdate → Packet
  -- the whole list of items again
  sync : Packet
  -- locations of the session's own slot are checked
  location_checks : List ℤ → Packet
  -- what stands at locations of the session's own slot, and whether hints of them are made: 0, 1 or 2
  location_scouts : List ℤ → ℕ → Packet
  update_hint : UpdateHint → Packet
  -- the session's slot has this status
  status_update : ℕ → Packet
  -- a text to all, or a command
  say : List ℕ → Packet
  -- the names of these games, or of all
  get_data_package : Option (List (List ℕ)) → Packet
  bounce : Bounce → Packet
  -- what these keys of the data storage hold, with further members
  get : List (List ℕ) → Members → Packet
  change : SetPacket → Packet
  -- changes of these keys are told to the session
  set_notify : List (List ℕ) → Packet

-- ---- what is no packet

pub data BadKind : Type 0 where
  -- the message is no list of packets, or the packet has no command that there is
  bad_cmd : BadKind
  -- a member is missing, or of another kind
  bad_arguments : BadKind

-- why, with the command where there is one
pub record Bad : Type 0 where
  pub kind : BadKind
  pub cmd : Option (List ℕ)
  pub why : List ℕ

-- an element of a message
pub data Inbound : Type 0 where
  good : Packet → Inbound
  wrong : Bad → Inbound
