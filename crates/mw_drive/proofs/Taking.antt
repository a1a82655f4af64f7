-- A session that takes its messages, where memory and the disk don't fail.
use Rattle.std.proofs.Common.{◌≡◌, ◌^◌, ◌&&◌, ◌⊎◌, ◌∷◌, [], ℕ, List, Bool, true, false, not, cond, Option, Some, None, inl, inr, refl, sym, ap, subst, ◌∙◌, true≢false}
use Rattle.std.specs.Prelude.{nat_le, nat_lt}
use Rattle.mw_protocol.specs.Lives.{Life, takes, Reply, messages, overrun, stopped, StopCause, journal_full, too_many_calls, Outcome, passes, lacks, stops, fine, append, append_of, length_with, refusal, refused_by, refused_to, reply_of, reply_to, reply_unless, outcome}
use Rattle.mw_protocol.specs.Records.{Record}
use Rattle.mw_protocol.specs.Rooms.{Session, session_in}
use Rattle.mw_laws.specs.Kept.{Passes}
use Rattle.mw_drive.specs.Drive.{is_overrun, is_stopped}

-- with ample memory nothing lacks it
never_by : (b : Bool) (len : ℕ) → cond b (stops (journal_full len)) passes ≡ lacks → ⊥
never_by true len h = cc
never_by false len h = cc

pub never_lacks : (place : ℕ) (rs : List Record) → append place fine rs ≡ lacks → ⊥
never_lacks place [] h = cc
never_lacks place (r ∷ rs) h = never_by (nat_lt (2 ^ 30) (length_with place (r ∷ rs))) (length_with place (r ∷ rs)) h

-- a refusal of a session that is open is that the room has stopped, or that it is overrun
abbrev Told : Option Reply → Type 0
Told None = Unit {0}
Told (Some r) = (is_stopped r ≡ true) ⊎ (is_overrun r ≡ true)

told_over : (b : Bool) → Told (cond b (Some overrun) None)
told_over true = inr refl
told_over false = tt

told_many : (b : Bool) (otherwise : Option Reply) → Told otherwise → Told (cond b (Some (stopped (too_many_calls (2 ^ 63)))) otherwise)
told_many true otherwise h = inl refl
told_many false otherwise h = h

told_by : (cause : Option StopCause) (calls : ℕ) (otherwise : Option Reply) → Told otherwise → Told (refused_by cause calls otherwise)
told_by (Some cause) calls otherwise h = inl refl
told_by None calls otherwise h = told_many (nat_le (2 ^ 63) calls) otherwise h

module _ (life : Life) (session : ℕ) (s : Session) (found : session_in life.room.sessions session ≡ Some s) where
  told : Told (refusal life (takes session))
  told = told_by life.stopped life.calls (refused_to false (session_in life.room.sessions session)) (subst (λ o. Told (refused_to false o)) (sym found) (told_over (s.overrun && true)))

  accepted_by : (refused : Option Reply) (o : Outcome) → Told refused → is_stopped (reply_unless refused (reply_of life.room (takes session) o)) ≡ false
      → is_overrun (reply_unless refused (reply_of life.room (takes session) o)) ≡ false → refused ≡ None
  accepted_by None o h goes fits = refl
  accepted_by (Some r) o (inl is) goes fits = absurd (true≢false (sym is ∙ goes))
  accepted_by (Some r) o (inr is) goes fits = absurd (true≢false (sym is ∙ fits))

  passed_by : (refused : Option Reply) (o : Outcome) → refused ≡ None → (o ≡ lacks → ⊥) → is_stopped (reply_unless refused (reply_of life.room (takes session) o)) ≡ false → o ≡ passes
  passed_by None passes none never goes = refl
  passed_by None lacks none never goes = absurd (never refl)
  passed_by None (stops cause) none never goes = absurd (true≢false goes)
  passed_by (Some r) o none never goes = cc

  -- it takes them where the room doesn't stop and it isn't overrun
  pub take_passes : is_stopped (reply_to life (takes session) fine) ≡ false → is_overrun (reply_to life (takes session) fine) ≡ false → Passes life (takes session) fine
  take_passes goes fits =
      let o = outcome life (takes session) fine in
      let accepted = accepted_by (refusal life (takes session)) o told goes fits in
      record { accepted = accepted; passed = passed_by (refusal life (takes session)) o accepted (never_lacks life.place (append_of life (takes session))) goes }
