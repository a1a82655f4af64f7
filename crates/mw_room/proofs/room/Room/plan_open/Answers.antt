use Rattle.std.proofs.Common.{◌≡◌, ◌∷◌, [], map, ap, ◌∙◌}
use Rattle.mw_room.specs.Known.{Shown, greeted}
use Rattle.mw_room.specs.Views.{room_view, session_view}
use Rattle.mw_room.proofs.Planning.{opened_made}
use Rattle.mw_room.proofs.room.Room.plan_open.Goals as goal

pub returns-clause-known : goal.returns-clause-known
returns-clause-known c =
    let k = room_view c.args.self.now in
    let new : map session_view c.in_ok-sessions.sessions.items ≡ greeted k c.args.time ∷ [] =
    ap (map session_view) c.in_ok-sessions.ensures ∙ ap (λ (s : Shown). s ∷ []) c.in_ok-new_session.ensures in
    record {
      records = c.in_ok-plan.ensures.records ∙ ap (λ e. e.records) c.nothing.ensures.is;
      after = c.in_ok-plan.ensures.made ∙ opened_made k c.nothing.result _ _ c.args.time c.nothing.ensures.quiet c.new.ensures.items new;
    }
