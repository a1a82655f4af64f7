-- When a Connect is refused, and whom a session then plays.
use Rattle.std.specs.Prelude.{ℕ, ℤ, pos, ◌+◌, ◌==◌, ◌&&◌, ◌||◌, ◌++◌, ◌∷◌, [], List, Bool, Option, Some, None, true, false, not, codes, bytes_eq, int_lt, is_some, length, unwrap_or, if◌then◌else◌}
use Rattle.std.specs.Ordering.{int_eq}
use Rattle.mw_model.specs.Seed.{Seed, Slot, slot_of}
use Rattle.mw_model.specs.Texts.{has_text}
use Rattle.mw_protocol.specs.Packets.{Version, Connect, ConnectUpdate}

-- ---- who is named

pub record Player : Type 0 where
  pub team : ℕ
  pub slot : ℕ

-- the team whose name for a slot this is, from a team on
abbrev pub team_named : List ℕ → ℕ → List (List ℕ) → Option ℕ
team_named name team [] = None
team_named name team (first ∷ others) =
    if bytes_eq first name then Some team else team_named name (team + 1) others

abbrev pub player_or : Option ℕ → ℕ → Option Player → Option Player
player_or None slot others = others
player_or (Some team) slot others = Some record { team = team; slot = slot }

-- the player of a name, from a slot on
abbrev pub player_among : List ℕ → ℕ → List Slot → Option Player
player_among name number [] = None
player_among name number (slot ∷ slots) =
    player_or (team_named name 0 slot.names) number (player_among name (number + 1) slots)

abbrev pub player_named : Seed → List ℕ → Option Player
player_named seed name = player_among name 1 seed.slots

-- ---- refusals of a Connect, in their order

abbrev pub text_or_empty : Option (List ℕ) → List ℕ
text_or_empty t = unwrap_or t []

abbrev pub has_tag : Option (List (List ℕ)) → List ℕ → Bool
has_tag tags tag = has_text (unwrap_or tags []) tag

-- it may look on without a game
abbrev pub looks_on : Option (List ℕ) → Option (List (List ℕ)) → Bool
looks_on game tags =
    (length (text_or_empty game) == 0)
    && (has_tag tags (codes "Tracker") || has_tag tags (codes "TextOnly"))

abbrev pub is_game_of : Option (List ℕ) → Option (List (List ℕ)) → Option Slot → Bool
is_game_of game tags None = true
is_game_of game tags (Some slot) = bytes_eq slot.game (text_or_empty game) || looks_on game tags

abbrev pub slot_played : Seed → Option Player → Option Slot
slot_played seed None = None
slot_played seed (Some p) = slot_of seed p.slot

-- before version 0.4.0
abbrev pub is_old : Version → Bool
is_old v =
    int_lt v.major (pos 0)
    || (int_eq v.major (pos 0)
    && (int_lt v.minor (pos 4) || (int_eq v.minor (pos 4) && int_lt v.build (pos 0))))

-- the masks 0, 1, 3, 5 and 7, and 0 where none is given
abbrev pub is_mask : ℤ → Bool
is_mask m =
    int_eq m (pos 0) || int_eq m (pos 1) || int_eq m (pos 3) || int_eq m (pos 5) || int_eq m (pos 7)

abbrev pub error_where : Bool → List ℕ → List (List ℕ)
error_where true text = text ∷ []
error_where false text = []

-- a password that is set has to be the one given
abbrev pub is_wrong_password : Seed → Option (List ℕ) → Bool
is_wrong_password seed password =
    not (length seed.server.password == 0)
    && not (bytes_eq seed.server.password (text_or_empty password))

abbrev pub connect_errors : Seed → Connect → List (List ℕ)
connect_errors seed c =
    error_where (is_wrong_password seed c.password) (codes "InvalidPassword")
    ++ error_where (not (is_some (player_named seed c.name))) (codes "InvalidSlot")
    ++ error_where (not (is_game_of c.game c.tags (slot_played seed (player_named seed c.name))))
    (codes "InvalidGame")
    ++ error_where (is_old c.version) (codes "IncompatibleVersion")
    ++ error_where (not (is_mask (unwrap_or c.items_handling (pos 0))))
    (codes "InvalidItemsHandling")

-- ---- members

-- the team and slot that a session plays, the mask of the items that it wants to hear of, its tags, and the keys of the data storage whose changes it is told of
pub record Member : Type 0 where
  pub team : ℕ
  pub slot : ℕ
  pub mask : ℕ
  pub tags : List (List ℕ)
  pub keys : List (List ℕ)

abbrev pub mask_of : ℤ → ℕ
mask_of (pos m) = m
mask_of _ = 0

abbrev pub member_at : Connect → Option Player → Option Member
member_at fields None = None
member_at fields (Some p) =
    Some record {
      team = p.team;
      slot = p.slot;
      mask = mask_of (unwrap_or fields.items_handling (pos 0));
      tags = unwrap_or fields.tags [];
      keys = [];
    }

-- the member that a Connect makes, where nothing refuses it
abbrev pub member_unless : List (List ℕ) → Option Member → Option Member
member_unless [] made = made
member_unless (error ∷ errors) made = None

abbrev pub member_by : Seed → Connect → Option Member
member_by seed fields =
    member_unless (connect_errors seed fields) (member_at fields (player_named seed fields.name))

-- what is given takes the place of what was there
abbrev pub updated : Member → ConnectUpdate → Member
updated m u =
    record {
      team = m.team;
      slot = m.slot;
      mask = unwrap_or u.items_handling m.mask;
      tags = unwrap_or u.tags m.tags;
      keys = m.keys;
    }
