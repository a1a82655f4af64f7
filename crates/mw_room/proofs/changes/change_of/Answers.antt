use Rattle.std.proofs.Common.{◌==◌, Option, ap, ◌∙◌}
use Rattle.mw_protocol.specs.Connecting.{Member}
use Rattle.mw_effects.specs.Views.{effect_view}
use Rattle.mw_room.specs.Views.{due_text, due_by, due_after}
use Rattle.mw_room.proofs.Turns.{change_due, due_is}
use Rattle.mw_room.proofs.changes.change_of.Goals as goal

pub returns-clause-is : goal.returns-clause-is
returns-clause-is c =
    let standing = c.args.standing.now in
    let effect = c.args.effect.now in
    let s = c.args.session.now in
    let sends = s.number == c.args.sender in
    let text = c.in_ok-text.ensures.text ∙ ap (λ (m : Option Member). due_text standing effect sends m) c.member_after-member.ensures in
    change_due c.in_ok-change.change c.args.at (due_by c.in_ok-made.made c.in_ok-text.text) (due_after standing effect c.args.sender) s
    (λ len. due_is (effect_view effect) sends c.in_ok-made.made c.in_ok-text.text _ len _ c.in_ok-made.ensures text) c.in_ok-change.ensures
