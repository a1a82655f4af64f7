-- A Connect makes a member where none of its errors applies.
use Rattle.std.proofs.Common.{◌≡◌, ℕ, pos, ◌++◌, [], List, Bool, true, false, not, Option, Some, None, refl, sym, codes, cond, ap, ◌∙◌}
use Rattle.std.specs.Option.{is_some, unwrap_or}
use Rattle.mw_model.specs.Seed.{Seed}
use Rattle.mw_protocol.specs.Packets.{Connect}
use Rattle.mw_protocol.specs.Connecting.{Player, player_named, member_by, member_at, member_unless, is_wrong_password, is_game_of, slot_played, is_old, is_mask, mask_of, error_where}
use Rattle.mw_room.specs.Joining.{errors_with, mask_asked, member_where}

-- by the five errors
by_errors : (c : Connect) (o : Option Player) (wrong other old mask : Bool)
    → member_unless (error_where wrong (codes "InvalidPassword") ++ error_where (not (is_some o)) (codes "InvalidSlot") ++ error_where other (codes "InvalidGame") ++ error_where old (codes "IncompatibleVersion") ++ error_where (not mask) (codes "InvalidItemsHandling")) (member_at c o)
    ≡ member_where (error_where wrong (codes "InvalidPassword") ++ error_where (not (is_some o)) (codes "InvalidSlot") ++ error_where other (codes "InvalidGame") ++ error_where old (codes "IncompatibleVersion") ++ error_where (not mask) (codes "InvalidItemsHandling")) o (cond mask (Some (mask_of (unwrap_or c.items_handling (pos 0)))) None) (unwrap_or c.tags [])
by_errors c o true other old mask = refl
by_errors c None false other old mask = refl
by_errors c (Some p) false true old mask = refl
by_errors c (Some p) false false true mask = refl
by_errors c (Some p) false false false true = refl
by_errors c (Some p) false false false false = refl

pub member_is : (seed : Seed) (c : Connect) → member_by seed c
    ≡ member_where (errors_with seed c (player_named seed c.name)) (player_named seed c.name) (mask_asked c.items_handling) (unwrap_or c.tags [])
member_is seed c =
    by_errors c (player_named seed c.name) (is_wrong_password seed c.password) (not (is_game_of c.game c.tags (slot_played seed (player_named seed c.name)))) (is_old c.version) (is_mask (unwrap_or c.items_handling (pos 0)))

-- five lists added one after the other
pub added_five : {X : Type 0} (a b c d e p q r s t : List X) → p ≡ a → q ≡ p ++ b → r ≡ q ++ c → s ≡ r ++ d → t ≡ s ++ e → t ≡ a ++ b ++ c ++ d ++ e
added_five a b c d e p q r s t hp hq hr hs ht =
    ht ∙ ap (λ xs. xs ++ e) (hs ∙ ap (λ xs. xs ++ d) (hr ∙ ap (λ xs. xs ++ c) (hq ∙ ap (λ xs. xs ++ b) hp)))

pub asks_some : (b : Bool) (m : ℕ) → is_some (cond b (Some m) None) ≡ b
asks_some true m = refl
asks_some false m = refl

pub not_turned : (a b : Bool) → a ≡ not b → b ≡ not a
not_turned a true h = ap not (sym h)
not_turned a false h = ap not (sym h)
