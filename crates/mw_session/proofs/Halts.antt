-- Why the room has stopped, over calls one behind the other.
use Rattle.std.proofs.Common.{◌≡◌, ℕ, List, [], ◌∷◌, ◌++◌, refl, ap, sym, ◌∙◌, ⊎_elim}
use Rattle.std.specs.Prelude.{Option, None, Some}
use Rattle.std.specs.Option.{option_or}
use Rattle.mw_link.specs.declared.link.Heard.{Heard}
use Rattle.mw_keep.specs.declared.call.Call.{Call}
use Rattle.mw_keep.specs.declared.call.Call.TheVariants.{Open}
use Rattle.mw_keep.specs.declared.reply.Reply.{Reply}
use Rattle.mw_keep.specs.declared.reply.Reply.TheVariants as R
use Rattle.mw_keep.specs.declared.reply.StopCause.{StopCause}
use Rattle.mw_session.specs.declared.ended.Ended.{Ended}
use Rattle.mw_session.specs.declared.ended.Ended.TheVariants as Ends
use Rattle.mw_session.specs.Answered.{end_by, LastEnds, NoneEnds}
use Rattle.mw_session.specs.Sessions.{Talked, Why}
use Rattle.mw_session.specs.Stops.{stop_at, stop_by, stop_in}

or_assoc : {A : Type 0} (a b c : Option A) → option_or (option_or a b) c ≡ option_or a (option_or b c)
or_assoc None b c = refl
or_assoc (Some x) b c = refl

pub or_none : {A : Type 0} (a : Option A) → option_or a None ≡ a
or_none None = refl
or_none (Some x) = refl

pub stop_more : (xs ys : List (Call × Reply)) → stop_in (xs ++ ys) ≡ option_or (stop_in xs) (stop_in ys)
stop_more [] ys = refl
stop_more (x ∷ xs) ys = ap (option_or (stop_by x.1)) (stop_more xs ys) ∙ sym (or_assoc (stop_by x.1) (stop_in xs) (stop_in ys))

-- the cause of an end, if there is one
abbrev stop_if : Option Ended → Option StopCause
stop_if None = None
stop_if (Some e) = stop_at e

by_end : (r : Reply) → stop_by r ≡ stop_if (end_by r)
by_end (R.Opened n) = refl
by_end R.Done = refl
by_end (R.Messages texts) = refl
by_end R.Gone = refl
by_end R.Overrun = refl
by_end (R.Stopped cause) = refl
by_end R.Memory = refl

none_stops : (xs : List (Call × Reply)) → NoneEnds xs → stop_in xs ≡ None
none_stops [] h = refl
none_stops (x ∷ xs) h = ap (λ o. option_or o (stop_in xs)) (by_end x.1 ∙ ap stop_if h.0) ∙ none_stops xs h.1

last_stops : (e : Ended) (xs : List (Call × Reply)) → LastEnds e xs → stop_in xs ≡ stop_at e
last_stops e [] h = absurd h
last_stops e (x ∷ []) h = or_none (stop_by x.1) ∙ (by_end x.1 ∙ ap stop_if h)
last_stops e (x ∷ y ∷ ys) h = ap (λ o. option_or o (stop_in (y ∷ ys))) (by_end x.1 ∙ ap stop_if h.0) ∙ last_stops e (y ∷ ys) h.1

why_stops : (s : ℕ) (talk : List (Call × Reply)) (heard : List Heard) (sent : List (List ℕ)) (rose : Type 0) (e : Ended) → Why s talk heard sent rose e → stop_in talk ≡ stop_at e
why_stops s talk heard sent rose Ends.Closed w = none_stops talk w.2
why_stops s talk heard sent rose (Ends.TooLong n) w = none_stops talk w.5
why_stops s talk heard sent rose Ends.LinkFault w = none_stops talk w.3
why_stops s talk heard sent rose Ends.Memory w = ⊎_elim (none_stops talk) (last_stops Ends.Memory talk) w.1
why_stops s talk heard sent rose Ends.Gone w = last_stops Ends.Gone talk w.1
why_stops s talk heard sent rose Ends.Overrun w = last_stops Ends.Overrun talk w.1
why_stops s talk heard sent rose (Ends.Stopped cause) w = last_stops (Ends.Stopped cause) talk w.1

-- why the room has stopped, over all calls of a session
pub session_stops : (time s : ℕ) (talk close : List (Call × Reply)) (heard : List Heard) (sent : List (List ℕ)) (rose : Type 0) (e : Ended) (lost : Option StopCause) → Talked s talk heard sent rose e → stop_in close ≡ lost → stop_in ((Open time, R.Opened s) ∷ talk ++ close) ≡ option_or (stop_at e) lost
session_stops time s talk close heard sent rose e lost talked is = stop_more talk close ∙ (ap (λ o. option_or o (stop_in close)) (why_stops s talk heard sent rose e talked.why) ∙ ap (option_or (stop_at e)) is)
