-- What a packet has of a message's text: the members of the text's kept reading as they stand, numerals by their characters.
use Rattle.std.specs.Prelude.{◌≡◌, ℕ, zero, suc, pos, List, [], ◌∷◌, Option, Some, None, false, bytes_eq, codes, option_and_then, slice_get, unwrap_or}
use Rattle.mw_model.specs.Json.{Json, whole, words, many, members, Items, no_items, item, Members, find_member, field_of}
use Rattle.mw_model.specs.Sets.{Operation, SetPacket}
use Rattle.mw_model.specs.Texts.{has_text}
use Rattle.mw_protocol.specs.Messages.{bounced_json, texts_json}
use Rattle.mw_protocol.specs.Packets.{Bounce, Packet, bounce, get, change, good}
use Rattle.mw_json.specs.KeptReading.{kept_reading}
use Rattle.mw_json.specs.Sets.{set_names}
use Rattle.mw_packets_in.specs.Kept.{get_names}
use Rattle.mw_packets_in.specs.PacketsOf.{packets_of}

-- ---- elements of a message

abbrev pub element : ℕ → Items → Option Json
element i no_items = None
element zero (item j js) = Some j
element (suc i) (item j js) = element i js

-- of a list
abbrev pub element_of : ℕ → Json → Option Json
element_of i (many js) = element i js
element_of i j = None

-- the text's element at this place is an object of a command, with these members, and stands for this packet
pub record IsSent (text : List ℕ) (i : ℕ) (cmd : List ℕ) (ms : Members) (packet : Packet)
    : Type 0 where
  pub object : option_and_then (element_of i) (kept_reading text) ≡ Some (members ms)
  pub command : find_member (codes "cmd") ms ≡ Some (words cmd)
  pub stands : slice_get (packets_of text) i ≡ Some (good packet)

-- ---- what stays

-- a packet of a Bounce is one whose Bounced has each of its members, but for the command, and no other
abbrev pub BouncesStay : Type 0
BouncesStay =
    (text : List ℕ) (i : ℕ) (ms : Members) (packet : Packet)
    → IsSent text i (codes "Bounce") ms packet
    → (b : Bounce) × (packet ≡ bounce b)
    × ((name : List ℕ) → bytes_eq (codes "cmd") name ≡ false
    → field_of name (bounced_json b) ≡ find_member name ms)

-- these are all members but for those of these names
abbrev pub AreOthers : List (List ℕ) → Members → Members → Type 0
AreOthers names ms further =
    (name : List ℕ) → has_text names name ≡ false
    → find_member name further ≡ find_member name ms

-- a packet of a Get has its keys, and its other members
abbrev pub GetsStay : Type 0
GetsStay =
    (text : List ℕ) (i : ℕ) (ms : Members) (packet : Packet)
    → IsSent text i (codes "Get") ms packet
    → (keys : List (List ℕ)) × (further : Members) × (packet ≡ get keys further)
    × (find_member (codes "keys") ms ≡ Some (texts_json keys)) × AreOthers get_names ms further

-- the operations that these elements are, one by one
abbrev pub AreOperations : Items → List Operation → Type 0
AreOperations no_items [] = Unit {0}
AreOperations (item j js) (o ∷ os) =
    (field_of (codes "operation") j ≡ Some (words o.name))
    × (field_of (codes "value") j ≡ Some o.value) × AreOperations js os
AreOperations no_items (o ∷ os) = ⊥
AreOperations (item j js) [] = ⊥

-- the change that these members ask for
pub record IsAskedBy (ms : Members) (set : SetPacket) : Type 0 where
  pub key : find_member (codes "key") ms ≡ Some (words set.key)
  pub fallback : set.fallback ≡ unwrap_or (find_member (codes "default") ms) (whole (pos 0))
  pub operations : (js : Items) × (find_member (codes "operations") ms ≡ Some (many js))
      × AreOperations js set.operations
  pub further : AreOthers set_names ms set.further

-- a packet of a Set has its key, its default, its operations with their operands, and its other members
abbrev pub SetsStay : Type 0
SetsStay =
    (text : List ℕ) (i : ℕ) (ms : Members) (packet : Packet)
    → IsSent text i (codes "Set") ms packet
    → (set : SetPacket) × (packet ≡ change set) × IsAskedBy ms set
