-- Along a life of a kept room each session that is opened has the next number.
use Rattle.std.proofs.Common.{◌≡◌, ℕ, ◌+◌, ◌^◌, Bool, true, false, if◌then◌else◌, List, [], ◌∷◌, ◌++◌, refl, ap, sym, subst, ◌∙◌, arith}
use Rattle.std.specs.Prelude.{Option, None, Some, ◌&&◌, not, nat_le}
use Rattle.mw_model.specs.Seed.{Seed}
use Rattle.mw_protocol.specs.Lives as plain
use Rattle.mw_protocol.specs.Records.{Record}
use Rattle.mw_protocol.specs.Rooms.{Room, Session, opened, sent, failed, lost, session_in}
use Rattle.mw_lock.specs.declared.view.Entry.{Entry}
use Rattle.mw_lock.specs.History.{LegalFrom}
use Rattle.mw_keep.specs.Views.{call_view, reply_view}
use Rattle.mw_keep.specs.declared.call.Call.{Call}
use Rattle.mw_keep.specs.declared.kept.Origin.{Origin}
use Rattle.mw_keep.specs.declared.reply.Reply.{Reply}
use Rattle.mw_keep.specs.declared.reply.Reply.TheVariants as R
use Rattle.mw_keep.specs.Standing.{lived, Began, MayReply, Replied}
use Rattle.mw_session.specs.Opened.{opened_by, opens, Fits, FitsAfter}

-- ---- one call

-- how many sessions a reply opens, and that it opens the next
abbrev opens_in : plain.Reply → ℕ
opens_in (plain.opens n) = 1
opens_in plain.done = 0
opens_in (plain.messages texts) = 0
opens_in plain.gone = 0
opens_in plain.overrun = 0
opens_in (plain.stopped cause) = 0
opens_in plain.memory = 0

abbrev IsNext : ℕ → plain.Reply → Type 0
IsNext before (plain.opens n) = n ≡ before + 1
IsNext before plain.done = Unit {0}
IsNext before (plain.messages texts) = Unit {0}
IsNext before plain.gone = Unit {0}
IsNext before plain.overrun = Unit {0}
IsNext before (plain.stopped cause) = Unit {0}
IsNext before plain.memory = Unit {0}

-- a refusal opens none
abbrev IsSilent : Option plain.Reply → Type 0
IsSilent None = Unit {0}
IsSilent (Some (plain.opens n)) = ⊥
IsSilent (Some plain.done) = Unit {0}
IsSilent (Some (plain.messages texts)) = Unit {0}
IsSilent (Some plain.gone) = Unit {0}
IsSilent (Some plain.overrun) = Unit {0}
IsSilent (Some (plain.stopped cause)) = Unit {0}
IsSilent (Some plain.memory) = Unit {0}

silent_choice : (b : Bool) (o p : Option plain.Reply) → IsSilent o → IsSilent p → IsSilent (if b then o else p)
silent_choice true o p h k = h
silent_choice false o p h k = k

silent_to : (ending : Bool) (s : Option Session) → IsSilent (plain.refused_to ending s)
silent_to ending None = tt
silent_to ending (Some s) = silent_choice (s.overrun && not ending) (Some plain.overrun) None tt tt

silent_in : (room : Room) (ending : Bool) (number : Option ℕ) → IsSilent (plain.refused_in room ending number)
silent_in room ending None = tt
silent_in room ending (Some number) = silent_to ending (session_in room.sessions number)

silent_by : (stopped : Option plain.StopCause) (calls : ℕ) (o : Option plain.Reply) → IsSilent o → IsSilent (plain.refused_by stopped calls o)
silent_by (Some cause) calls o h = tt
silent_by None calls o h = silent_choice (nat_le (2 ^ 63) calls) (Some (plain.stopped (plain.too_many_calls (2 ^ 63)))) o tt h

-- it opens the next session, or none, and the room has opened as many more
abbrev Opens : plain.Life → plain.Reply → plain.Life → Type 0
Opens life reply left = IsNext life.room.opened reply × (left.room.opened ≡ life.room.opened + opens_in reply)

none_more : (n : ℕ) → n ≡ n + 0
none_more n = omega arith

module _ (life : plain.Life) (call : plain.Call) where
  passing : (c : plain.Call) → Opens life (plain.answer life.room c) (plain.life_of life c plain.passes)
  passing (plain.happens (opened time)) = (refl, refl)
  passing (plain.happens (sent number packet)) = (tt, none_more life.room.opened)
  passing (plain.happens (failed number bad)) = (tt, none_more life.room.opened)
  passing (plain.happens (lost number)) = (tt, none_more life.room.opened)
  passing plain.commits = (tt, none_more life.room.opened)
  passing (plain.takes number) = (tt, none_more life.room.opened)

  going : (out : plain.Outcome) → Opens life (plain.reply_of life.room call out) (plain.life_of life call out)
  going plain.passes = passing call
  going plain.lacks = (tt, none_more life.room.opened)
  going (plain.stops cause) = (tt, none_more life.room.opened)

  answered : (o : Option plain.Reply) (out : plain.Outcome) → IsSilent o → Opens life (plain.reply_unless o (plain.reply_of life.room call out)) (plain.life_unless o life (plain.life_of life call out))
  answered None out h = going out
  answered (Some (plain.opens n)) out h = absurd h
  answered (Some plain.done) out h = (tt, none_more life.room.opened)
  answered (Some (plain.messages texts)) out h = (tt, none_more life.room.opened)
  answered (Some plain.gone) out h = (tt, none_more life.room.opened)
  answered (Some plain.overrun) out h = (tt, none_more life.room.opened)
  answered (Some (plain.stopped cause)) out h = (tt, none_more life.room.opened)
  answered (Some plain.memory) out h = (tt, none_more life.room.opened)

  one_call : (luck : plain.Luck) → Opens life (plain.reply_to life call luck) (plain.life_after life call luck)
  one_call luck = answered (plain.refusal life call) (plain.outcome life call luck) (silent_by life.stopped life.calls (plain.refused_in life.room (plain.ends call) (plain.named_by call)) (silent_in life.room (plain.ends call) (plain.named_by call)))

-- ---- a life

as_many : (r : Reply) → opens_in (reply_view r) ≡ opened_by r
as_many (R.Opened n) = refl
as_many R.Done = refl
as_many (R.Messages texts) = refl
as_many R.Gone = refl
as_many R.Overrun = refl
as_many (R.Stopped cause) = refl
as_many R.Memory = refl

as_next : (before : ℕ) (r : Reply) → IsNext before (reply_view r) → FitsAfter before r
as_next before (R.Opened n) h = h
as_next before R.Done h = tt
as_next before (R.Messages texts) h = tt
as_next before R.Gone h = tt
as_next before R.Overrun h = tt
as_next before (R.Stopped cause) h = tt
as_next before R.Memory h = tt

lived_opened : (life : plain.Life) (past : List (Call × Reply)) (lucks : List plain.Luck) → Replied life past lucks → (lived life past lucks).room.opened ≡ life.room.opened + opens past
lived_opened life [] [] h = none_more life.room.opened
lived_opened life [] (l ∷ ls) h = absurd h
lived_opened life (c ∷ cs) [] h = absurd h
lived_opened life (c ∷ cs) (l ∷ ls) h =
    let step = (one_call life (call_view c.0) l).1 in
    let rest = lived_opened (plain.life_after life (call_view c.0) l) cs ls h.1 in
    let same : opened_by c.1 ≡ opens_in (plain.reply_to life (call_view c.0) l) = sym (as_many c.1) ∙ ap opens_in h.0 in omega arith

module _ {D : Type 0} (may_leave : D → List ℕ → Type 0) (digest : List ℕ) (seed : Seed) (journal : List Record) (place : ℕ) (origin : Origin D) (began : Began may_leave digest seed journal place origin) where
  may_fits : (past : List (Call × Reply)) (call : Call) (reply : Reply) → MayReply may_leave (Some origin) past call reply → Fits past call reply
  may_fits past call reply h =
      let k = h digest seed journal place began in
      let life = lived (plain.new_life seed journal place) past k.0 in
      let all : life.room.opened ≡ 0 + opens past = lived_opened (plain.new_life seed journal place) past k.0 k.2 in
      let next : IsNext life.room.opened (reply_view reply) = subst (IsNext life.room.opened) (sym k.3) (one_call life (call_view call) k.1).0 in
      as_next (opens past) reply (subst (λ n. IsNext n (reply_view reply)) (all ∙ (omega arith)) next)

  -- the next number stands at each opening of a legal history
  pub legal_fits : (past : List (Call × Reply)) (log : List (Entry Call Reply)) → LegalFrom (MayReply may_leave (Some origin)) past log → LegalFrom Fits past log
  legal_fits past [] h = tt
  legal_fits past (e ∷ es) h = (may_fits past e.call e.reply h.0, legal_fits (past ++ (e.call, e.reply) ∷ []) es h.1)
