use Rattle.std.proofs.Common.{List, map, ap, ◌∙◌}
use Rattle.mw_room.specs.Known.{Known, shown_at}
use Rattle.mw_room.specs.Views.{room_view, session_view, shown_state}
use Rattle.mw_room.specs.declared.session.Session.{Session}
use Rattle.mw_room.proofs.Planning.{state_is}
use Rattle.mw_room.proofs.room.Room.state.Goals as goal

pub returns : goal.returns
returns c r st =
    c.state_in.ensures
    ∙ ap (λ (ss : List Session). shown_state (shown_at c.get.result (map session_view ss))) c.deref.ensures.value
    ∙ ap (λ n. shown_state (shown_at n (room_view c.args.self.now).sessions)) c.get.ensures
    ∙ ap (λ (k : Known). shown_state (shown_at c.args.session k.sessions)) st.known
    ∙ state_is c.args.session r.sessions
