-- Who hears what is told to several sessions.
use Rattle.std.specs.Prelude.{ℕ, ℤ, pos, ◌==◌, ◌&&◌, ◌||◌, ◌∷◌, [], List, Bool, false, Option, Some, None, not, codes, if◌then◌else◌}
use Rattle.std.specs.Ordering.{int_eq}
use Rattle.mw_model.specs.Seed.{Seed, Slot, slot_of, is_owner}
use Rattle.mw_model.specs.Texts.{has_text}
use Rattle.mw_protocol.specs.Connecting.{Member}
use Rattle.mw_protocol.specs.Messages.{ServerPacket}

-- whom a message is for: those who play one of the games or slots, or have one of the tags
pub record Named : Type 0 where
  pub games : List (List ℕ)
  pub slots : List ℤ
  pub tags : List (List ℕ)

pub data Audience : Type 0 where
  -- of a print: everybody of a team
  team_hears : ℕ → Audience
  -- of a print: in a team those who play a slot, or one of a receiver's owners
  slots_hear : ℕ → ℕ → ℕ → Audience
  -- of a print: who sent the packet
  sender_hears : Audience
  -- those who watch a key of the data storage, and who sent the packet, where it asks for that
  watchers_hear : List ℕ → Bool → Audience
  -- in a team those whom a message is for
  named_hear : ℕ → Named → Audience

pub record Announced : Type 0 where
  pub audience : Audience
  pub packet : ServerPacket

-- with this tag it hears no print
abbrev pub wants_no_text : Member → Bool
wants_no_text m = has_text m.tags (codes "NoText")

-- ---- whom a message is for

abbrev pub has_number : List ℤ → ℤ → Bool
has_number [] n = false
has_number (first ∷ others) n = int_eq first n || has_number others n

abbrev pub is_game_among : List (List ℕ) → Option Slot → Bool
is_game_among games None = false
is_game_among games (Some slot) = has_text games slot.game

abbrev pub share_text : List (List ℕ) → List (List ℕ) → Bool
share_text [] texts = false
share_text (t ∷ ts) texts = has_text texts t || share_text ts texts

abbrev pub is_named : Seed → Named → Member → Bool
is_named seed n m =
    is_game_among n.games (slot_of seed m.slot) || has_number n.slots (pos m.slot)
    || share_text n.tags m.tags

-- ---- who hears

-- whether a member hears what is for an audience, which sent the packet or not
abbrev pub hears : Seed → Audience → Bool → Member → Bool
hears seed (team_hears team) sends m = not (wants_no_text m) && (m.team == team)
hears seed (slots_hear team slot receiver) sends m =
    not (wants_no_text m) && (m.team == team)
    && ((m.slot == slot) || is_owner seed receiver m.slot)
hears seed sender_hears sends m = not (wants_no_text m) && sends
hears seed (watchers_hear key replies) sends m = (sends && replies) || has_text m.keys key
hears seed (named_hear team n) sends m = (m.team == team) && is_named seed n m

abbrev pub heard : Seed → List Announced → Bool → Member → List ServerPacket
heard seed [] sends m = []
heard seed (a ∷ others) sends m =
    if hears seed a.audience sends m then a.packet ∷ heard seed others sends m
    else heard seed others sends m

-- what of it a session is owed, which is this member, if it is one
abbrev pub heard_by : Seed → List Announced → Bool → Option Member → List ServerPacket
heard_by seed announced sends None = []
heard_by seed announced sends (Some m) = heard seed announced sends m
