-- A whole session, from its parts.
use Rattle.std.proofs.Common.{◌≡◌, ℕ, ◌<◌, List, [], ◌∷◌, ◌++◌, refl, sym, ◌∙◌}
use Rattle.std.specs.Prelude.{Option, Some}
use Rattle.std.specs.Option.{option_or}
use Rattle.mw_link.specs.declared.link.Heard.{Heard}
use Rattle.mw_keep.specs.declared.call.Call.{Call}
use Rattle.mw_keep.specs.declared.call.Call.TheVariants.{Open}
use Rattle.mw_keep.specs.declared.reply.Reply.{Reply}
use Rattle.mw_keep.specs.declared.reply.Reply.TheVariants.{Opened}
use Rattle.mw_keep.specs.declared.reply.StopCause.{StopCause}
use Rattle.mw_session.specs.declared.ended.Ended.{Ended}
use Rattle.mw_session.specs.Passes.{ClosesBy, Makes, RoomPass, Runs, Turned}
use Rattle.mw_session.specs.Stops.{stop_at}
use Rattle.mw_session.proofs.Halts.{session_stops}
use Rattle.mw_session.proofs.Turns.{makes_more}

module _ {L : Type 0} (heard_by : L → List Heard) (sent_by : L → List (List ℕ)) (faults : L → ℕ) (moment : L → ℕ) where
  -- it is opened, talks to its end, and is lost
  pub runs_opened : {B : Type 0} (time s : ℕ) (v w x y : RoomPass B) (old new : L) (e : Ended) (lost stopped : Option StopCause) → Makes v ((Open time, Opened s) ∷ []) w → Turned heard_by sent_by faults moment s w old (Some e) x new → ClosesBy s e x lost y → stopped ≡ option_or (stop_at e) lost → Runs heard_by sent_by faults moment time v old (Some s) e stopped y new
  runs_opened time s v w x y old new e lost stopped made talk close is =
      let one : List (Call × Reply) = (Open time, Opened s) ∷ [] in (
        (Open time, Opened s) ∷ talk.0 ++ close.0,
        talk.1,
        talk.2,
        makes_more v w y one (talk.0 ++ close.0) made (makes_more w x y talk.0 close.0 talk.3 close.1),
        talk.4,
        (talk.0, close.0, refl, talk.5, close.2),
        session_stops time s talk.0 close.0 talk.1 talk.2 (faults old < faults new) e lost talk.5 close.3 ∙ sym is,
      )
