use Rattle.std.proofs.Common.{◌≡◌, List, Option, map, subst, ap, ap₂, ◌∙◌}
use Rattle.mw_model.specs.Seed.{Seed}
use Rattle.mw_protocol.specs.Connecting.{Member}
use Rattle.mw_protocol.specs.Entering.{parting}
use Rattle.mw_protocol.specs.Rooms as plain
use Rattle.mw_room.specs.Known.{known_effect, member_at}
use Rattle.mw_effects.specs.Parts.{grown}
use Rattle.mw_effects.specs.Views.{effect_view}
use Rattle.mw_room.specs.Views.{room_view, session_view, changed, due_after}
use Rattle.mw_room.specs.declared.session.Session.{Session}
use Rattle.mw_effects.proofs.Effects.{quiet_logged}
use Rattle.mw_room.proofs.Planning.{lost_made}
use Rattle.mw_room.proofs.room.Room.plan_lost.Goals as goal

pub returns-clause-known : goal.returns-clause-known
returns-clause-known c =
    let k = room_view c.args.self.now in
    let s = c.args.self.now.standing in
    let e = c.in_ok-effect.effect in
    let cs = c.in_ok-changes.changes.items in
    let member = c.member_of-member.ensures ∙ ap (λ (ss : List Session). member_at c.args.number (map session_view ss)) c.deref.ensures.value in
    let is : effect_view e ≡ known_effect k (plain.lost c.args.number) = c.in_ok-effect.ensures.is ∙ ap₂ (λ (d : Seed) (m : Option Member). parting d m) c.tables.ensures member in
    record {
      records = c.in_ok-plan.ensures.records ∙ ap (λ x. x.records) is;
      after =
          c.in_ok-plan.ensures.made
          ∙ lost_made k e (grown s e) cs c.new.result.items c.args.number is (quiet_logged e s c.in_ok-effect.ensures.quiet).comes_to c.new.ensures.items
          (λ len. subst (λ (ss : List Session). changed len (map session_view ss) cs ≡ map (due_after s e c.args.number len) (map session_view ss)) c.deref-2.ensures.value (c.in_ok-changes.ensures.changes len));
    }
