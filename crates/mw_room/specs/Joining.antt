-- A Connect by what it names and what it asks for.
use Rattle.std.specs.Prelude.{ℕ, ℤ, pos, ◌++◌, ◌∷◌, [], List, Option, Some, None, not, codes, is_some, unwrap_or, if◌then◌else◌}
use Rattle.mw_model.specs.Seed.{Seed}
use Rattle.mw_protocol.specs.Connecting.{Member, Player, error_where, is_wrong_password, is_game_of, slot_played, is_old, is_mask, mask_of}
use Rattle.mw_protocol.specs.Packets.{Connect}

-- the refusals of a Connect that names this player
abbrev pub errors_with : Seed → Connect → Option Player → List (List ℕ)
errors_with seed c player =
    error_where (is_wrong_password seed c.password) (codes "InvalidPassword")
    ++ error_where (not (is_some player)) (codes "InvalidSlot")
    ++ error_where (not (is_game_of c.game c.tags (slot_played seed player))) (codes "InvalidGame")
    ++ error_where (is_old c.version) (codes "IncompatibleVersion")
    ++ error_where (not (is_mask (unwrap_or c.items_handling (pos 0))))
    (codes "InvalidItemsHandling")

-- the mask that is asked for, where it is one
abbrev pub mask_asked : Option ℤ → Option ℕ
mask_asked items_handling =
    if is_mask (unwrap_or items_handling (pos 0))
    then Some (mask_of (unwrap_or items_handling (pos 0))) else None

-- the member of a player with a mask and tags, where nothing refuses it
abbrev pub member_where : List (List ℕ) → Option Player → Option ℕ → List (List ℕ) → Option Member
member_where (error ∷ errors) player mask tags = None
member_where [] None mask tags = None
member_where [] (Some p) None tags = None
member_where [] (Some p) (Some mask) tags =
    Some record { team = p.team; slot = p.slot; mask = mask; tags = tags; keys = [] }
