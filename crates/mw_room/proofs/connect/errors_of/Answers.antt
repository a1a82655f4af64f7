use Rattle.std.proofs.Common.{◌≡◌, pos, not, ap, ◌++◌, codes, ◌∙◌, subst}
use Rattle.std.specs.Option.{is_some, unwrap_or}
use Rattle.mw_protocol.specs.Packets.{Connect}
use Rattle.mw_protocol.specs.Connecting.{error_where, is_game_of, is_mask, is_old, is_wrong_password, mask_of, slot_played}
use Rattle.mw_room.specs.Joining.{errors_with}
use Rattle.mw_room.proofs.Joined.{added_five, asks_some, not_turned}
use Rattle.mw_room.proofs.connect.errors_of.Goals as goal

pub returns : goal.returns
returns c =
    let seed = c.args.seed.now in
    let player = c.args.player.now in
    let fields : Connect = record {
      name = c.fields.inside.name;
      password = c.fields.inside.password;
      game = c.fields.inside.game;
      version = c.fields.inside.version;
      items_handling = c.fields.inside.items_handling;
      tags = c.fields.inside.tags;
    } in
    let asked = unwrap_or fields.items_handling (pos 0) in
    let wrong : c.is_wrong_password-wrong.result ≡ is_wrong_password seed fields.password = c.is_wrong_password-wrong.ensures in
    let other : not c.is_game_of-other.result ≡ not (is_game_of fields.game fields.tags (slot_played seed player)) =
    ap not (c.is_game_of-other.ensures ∙ ap (is_game_of fields.game fields.tags) c.slot_played.ensures) in
    let odd : c.is_none-odd.result ≡ not (is_mask asked) = not_turned _ _ c.is_none-odd.ensures ∙ ap (λ m. not (is_some m)) c.mask_in.ensures ∙ ap not (asks_some (is_mask asked) (mask_of asked)) in
    let w1 = error_where (is_wrong_password seed fields.password) (codes "InvalidPassword") in
    let w2 = error_where (not (is_some player)) (codes "InvalidSlot") in
    let w3 = error_where (not (is_game_of fields.game fields.tags (slot_played seed player))) (codes "InvalidGame") in
    let w4 = error_where (is_old fields.version) (codes "IncompatibleVersion") in
    let w5 = error_where (not (is_mask asked)) (codes "InvalidItemsHandling") in
    let s1 = c.push_where.new.errors in
    let s2 = c.push_where-2.new.errors in
    let s3 = c.push_where-3.new.errors in
    let s4 = c.push_where-4.new.errors in
    let s5 = c.push_where-5.new.errors in
    let lost : c.is_none.result ≡ not (is_some player) = not_turned _ _ c.is_none.ensures in
    let e1 : s1 ≡ w1 =
    c.in_ok-push_where.ensures ∙ ap (λ xs. xs ++ error_where c.is_wrong_password-wrong.result (codes "InvalidPassword")) c.new-errors.ensures
    ∙ ap (λ b. error_where b (codes "InvalidPassword")) wrong in
    let e2 : s2 ≡ s1 ++ w2 = c.in_ok-push_where-2.ensures ∙ ap (λ b. s1 ++ error_where b (codes "InvalidSlot")) lost in
    let e3 : s3 ≡ s2 ++ w3 = c.in_ok-push_where-3.ensures ∙ ap (λ b. s2 ++ error_where b (codes "InvalidGame")) other in
    let e4 : s4 ≡ s3 ++ w4 = c.in_ok-push_where-4.ensures ∙ ap (λ b. s3 ++ error_where b (codes "IncompatibleVersion")) c.is_old.ensures in
    let e5 : s5 ≡ s4 ++ w5 = c.in_ok-push_where-5.ensures ∙ ap (λ b. s4 ++ error_where b (codes "InvalidItemsHandling")) odd in
    let is : s5 ≡ errors_with seed fields player = added_five w1 w2 w3 w4 w5 s1 s2 s3 s4 s5 e1 e2 e3 e4 e5 in
    subst (λ (f : Connect). s5 ≡ errors_with seed f player) c.fields.view_is is
