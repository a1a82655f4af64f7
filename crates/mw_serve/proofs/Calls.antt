-- Which calls of a history are those of a session over a link.
use Rattle.std.proofs.Common.{◌≡◌, ◌⊎◌, ◌==◌, ℕ, List, [], ◌∷◌, ◌++◌, Bool, true, false, if◌then◌else◌, ap, subst, inl, inr}
use Rattle.std.specs.List.{AllByRecursion}
use mathlib.Core.List.{IsPrefix}
use Rattle.mw_protocol.specs.Lives as plain
use Rattle.mw_lock.specs.declared.view.Entry.{Entry}
use Rattle.mw_lock.specs.History.{calls_by, events}
use Rattle.mw_link.specs.declared.link.Heard.{Heard}
use Rattle.mw_keep.specs.Views.{call_view}
use Rattle.mw_keep.specs.declared.call.Call.{Call}
use Rattle.mw_keep.specs.declared.call.Call.TheVariants.{Take}
use Rattle.mw_keep.specs.declared.reply.Reply.{Reply}
use Rattle.mw_session.specs.Answered.{calls_of}
use Rattle.mw_session.specs.Asked.{turns}
use Rattle.mw_session.proofs.Owning.{IsOwn, own_front}

-- ---- elements of a list

abbrev pub Among : {X : Type 0} → X → List X → Type 0
Among x [] = ⊥
Among x (y ∷ ys) = (y ≡ x) ⊎ Among x ys

pub among_left : {X : Type 0} (x : X) (xs ys : List X) → Among x xs → Among x (xs ++ ys)
among_left x [] ys h = absurd h
among_left x (y ∷ xs) ys (inl is) = inl is
among_left x (y ∷ xs) ys (inr h) = inr (among_left x xs ys h)

pub among_right : {X : Type 0} (x : X) (xs ys : List X) → Among x ys → Among x (xs ++ ys)
among_right x [] ys h = h
among_right x (y ∷ xs) ys h = inr (among_right x xs ys h)

-- a list is cut at an element of it
pub cut_at : {X : Type 0} (x : X) (xs : List X) → Among x xs → (past : List X) × (rest : List X) × (xs ≡ past ++ x ∷ rest)
cut_at x [] h = absurd h
cut_at x (y ∷ ys) (inl is) = ([], ys, ap (λ z. z ∷ ys) is)
cut_at x (y ∷ ys) (inr h) = let k = cut_at x ys h in (y ∷ k.0, k.1, ap (λ zs. y ∷ zs) k.2)

all_among : {X : Type 0} (P : X → Type 0) (x : X) (xs : List X) → Among x xs → AllByRecursion P xs → P x
all_among P x [] h all = absurd h
all_among P x (y ∷ ys) (inl is) all = subst P is all.0
all_among P x (y ∷ ys) (inr h) all = all_among P x ys h all.1

-- ---- the calls of one pass

by_step : (n : ℕ) (e : Entry Call Reply) (es : List (Entry Call Reply)) (c : Call × Reply) (b : Bool) → (Among c (calls_by n es) → Among c (events es))
    → Among c (if b then (e.call, e.reply) ∷ calls_by n es else calls_by n es) → Among c ((e.call, e.reply) ∷ events es)
by_step n e es c true f (inl is) = inl is
by_step n e es c true f (inr h) = inr (f h)
by_step n e es c false f h = inr (f h)

pub among_by : (n : ℕ) (es : List (Entry Call Reply)) (c : Call × Reply) → Among c (calls_by n es) → Among c (events es)
among_by n [] c h = absurd h
among_by n (e ∷ es) c h = by_step n e es c (e.by == n) (among_by n es c) h

-- ---- whose messages a session takes

among_calls : (c : Call × Reply) (cs : List (Call × Reply)) → Among c cs → Among (call_view c.0) (calls_of cs)
among_calls c [] h = absurd h
among_calls c (d ∷ ds) (inl is) = inl (ap (λ x. call_view x.0) is)
among_calls c (d ∷ ds) (inr h) = inr (among_calls c ds h)

-- a session takes its own messages alone
pub takes_own : (session : ℕ) (talk : List (Call × Reply)) (heard : List Heard) → IsPrefix (calls_of talk) (turns session heard ++ plain.takes session ∷ [])
    → (n : ℕ) (r : Reply) → Among (Take n, r) talk → n ≡ session
takes_own session talk heard front n r h = all_among (IsOwn session) (plain.takes n) (calls_of talk) (among_calls (Take n, r) talk h) (own_front session (calls_of talk) heard front)
