use Rattle.std.proofs.Common.{ap, ◌∙◌, sym}
use Rattle.mw_room.specs.Known.{Known, texts_at, known_taken}
use Rattle.mw_room.specs.Views.{room_view}
use Rattle.mw_room.proofs.Keeping.{texts_are, taken_is, sound_taken}
use Rattle.mw_room.proofs.room.Room.take.Goals as goal

pub returns-clause-given : goal.returns-clause-given
returns-clause-given c r st =
    c.from_vec.ensures
    ∙ c.take_known.ensures.given
    ∙ ap (λ n. texts_at n (room_view c.args.self.now).sessions) c.get.ensures
    ∙ ap (λ (k : Known). texts_at c.args.session k.sessions) st.known
    ∙ texts_are c.args.session r.sessions

pub returns-clause-left : goal.returns-clause-left
returns-clause-left c r st = record {
  known =
      c.take_known.ensures.left
      ∙ ap (known_taken (room_view c.args.self.now)) c.get.ensures
      ∙ ap (λ (k : Known). known_taken k c.args.session) st.known
      ∙ sym (taken_is r c.args.session);
  sound = sound_taken r c.args.session st.sound;
}
