-- Runs of lives, step by step.
use Rattle.std.proofs.Common.{◌≡◌, ℕ, List, ◌∷◌, [], ◌++◌, Option, Some, None, refl, sym, subst, append_assoc, append-nil}
use Rattle.mw_model.specs.Seed.{Seed}
use Rattle.mw_protocol.specs.Lives as lives
use Rattle.mw_protocol.specs.Lives.{Life, Call, Luck, Reply, Outcome, passes, lacks, stops, Step, acts, crashes, new_life, refusal, outcome, append_of, room_then, committed_then, life_of, life_unless, life_after, after_all, life_after_all}
use Rattle.mw_protocol.specs.Records.{Record}
use Rattle.mw_protocol.specs.Rooms.{Room, replayed}
use Rattle.mw_laws.specs.Kept.{Passes}
use Rattle.mw_laws.specs.Turns as turns
use Rattle.mw_laws.specs.Turns.{Turn}

-- a life after a call is the one before with one more call, or if the call passes the one that it leaves
module _ (life : Life) (call : Call) (luck : Luck) (Q : Room → ℕ → Type 0) (same : Q life.room life.committed)
    (then : Passes life call luck → Q (room_then life.room call) (committed_then life (append_of life call))) where
  abbrev HoldsOf : Life → Type 0
  HoldsOf other = Q other.room other.committed

  by_outcome : refusal life call ≡ None → (out : Outcome) → outcome life call luck ≡ out → HoldsOf (life_of life call out)
  by_outcome accepted passes passed = then record { accepted = accepted; passed = passed }
  by_outcome accepted lacks is = same
  by_outcome accepted (stops cause) is = same

  by_refusal : (refused : Option Reply) → refusal life call ≡ refused → HoldsOf (life_unless refused life (life_of life call (outcome life call luck)))
  by_refusal None accepted = by_outcome accepted (outcome life call luck) refl
  by_refusal (Some reply) is = same

  -- what holds of the room and of what is committed, and of those that a call leaves that passes, holds after the call
  pub life_after_call : HoldsOf (life_after life call luck)
  life_after_call = by_refusal (refusal life call) refl

-- so does what holds of the room alone
pub room_after_call : (life : Life) (call : Call) (luck : Luck) (Q : Room → Type 0) → Q life.room → (Passes life call luck → Q (room_then life.room call)) → Q (life_after life call luck).room
room_after_call life call luck Q same then = life_after_call life call luck (λ room _. Q room) same then

-- ---- runs

pub later_life : (life : Life) (steps more : List Step) → after_all life (steps ++ more) ≡ after_all (after_all life steps) more
later_life life [] more = refl
later_life life (s ∷ ss) more = later_life (lives.after life s) ss more

-- one step more
pub one_more : (seed : Seed) (steps : List Step) (s : Step) → life_after_all seed (steps ++ s ∷ []) ≡ lives.after (life_after_all seed steps) s
one_more seed steps s = later_life (new_life seed [] 40) steps (s ∷ [])

-- what holds of no steps, and is kept by each further one, holds of each run
module _ (P : List Step → Type 0) (keeps : (front : List Step) (s : Step) → P front → P (front ++ s ∷ [])) where
  from_front : (front rest : List Step) → P front → P (front ++ rest)
  from_front front [] h = subst P (sym (append-nil front)) h
  from_front front (s ∷ ss) h = subst P (append_assoc front (s ∷ []) ss) (from_front (front ++ s ∷ []) ss (keeps front s h))

  pub each_run : P [] → (steps : List Step) → P steps
  each_run h steps = from_front [] steps h

-- what holds of each room with nobody in it, and is kept by each turn, holds of each run's
module _ (Q : Room → Type 0) (empty : (seed : Seed) (journal : List Record) → Q (replayed seed journal)) (kept : (room : Room) (turn : Turn) → Q room → Q (turns.after room turn)) where
  kept_by_call : (room : Room) (call : Call) → Q room → Q (room_then room call)
  kept_by_call room (lives.happens event) h = kept room (turns.happens event) h
  kept_by_call room lives.commits h = h
  kept_by_call room (lives.takes number) h = kept room (turns.takes number) h

  kept_by_step : (life : Life) (s : Step) → Q life.room → Q (lives.after life s).room
  kept_by_step life (acts call luck) h = room_after_call life call luck Q h (λ _. kept_by_call life.room call h)
  kept_by_step life (crashes more place) h = empty life.room.seed (lives.left_by life more)

  pub each_room : (life : Life) (steps : List Step) → Q life.room → Q (after_all life steps).room
  each_room life [] h = h
  each_room life (s ∷ ss) h = each_room (lives.after life s) ss (kept_by_step life s h)
