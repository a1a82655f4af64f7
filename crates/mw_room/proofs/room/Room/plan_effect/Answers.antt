use Rattle.std.proofs.Common.{◌≡◌, List, map, subst, ◌∙◌}
use Rattle.mw_effects.specs.Parts.{grown}
use Rattle.mw_room.specs.Views.{room_view, session_view, changed, due_after}
use Rattle.mw_room.specs.declared.session.Session.{Session}
use Rattle.mw_room.proofs.Planning.{affected_made}
use Rattle.mw_room.proofs.room.Room.plan_effect.Goals as goal

pub returns-clause-after : goal.returns-clause-after
returns-clause-after c =
    let s = c.args.self.now.standing in
    let e = c.args.effect in
    let cs = c.in_ok-changes.changes.items in
    c.in_ok-plan.ensures.made
    ∙ affected_made (room_view c.args.self.now) e (grown s e) cs c.new.result.items c.args.sender c.requires.comes_to c.new.ensures.items
    (λ len. subst (λ (ss : List Session). changed len (map session_view ss) cs ≡ map (due_after s e c.args.sender len) (map session_view ss)) c.deref.ensures.value (c.in_ok-changes.ensures.changes len))
