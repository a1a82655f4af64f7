-- What the lives of a room keep, whatever calls and crashes come.
use Rattle.std.specs.Prelude.{◌≡◌, ◌↔◌, ◌≤◌, ℕ, ◌++◌, List, Bool, true, false, None, IsTrue, length}
use Rattle.std.specs.List.{list_all}
use mathlib.Core.List.{IsPrefix}
use Rattle.mw_model.specs.Seed.{Seed}
use Rattle.mw_protocol.specs.Lives.{Life, Call, Luck, Reply, opens, done, messages, gone, overrun, stopped, memory, passes, Step, acts, crashes, refusal, outcome, append_of, committed_of, committed_then, records_of, reply_to, room_then, life_after, left_by, life_anew, life_after_all}
use Rattle.mw_protocol.specs.Records.{Record}

-- it isn't refused, and nothing outside keeps it from being done
pub record Passes (life : Life) (call : Call) (luck : Luck) : Type 0 where
  pub accepted : refusal life call ≡ None
  pub passed : outcome life call luck ≡ passes

-- whether a reply says that its call is done
abbrev pub is_done : Reply → Bool
is_done (opens number) = true
is_done done = true
is_done (messages texts) = true
is_done gone = false
is_done overrun = false
is_done (stopped cause) = false
is_done memory = false

abbrev pub is_call : Step → Bool
is_call (acts call luck) = true
is_call (crashes more place) = false

abbrev pub journal_after : Seed → List Step → List Record
journal_after seed steps = (life_after_all seed steps).room.journal

abbrev pub committed_after : Seed → List Step → ℕ
committed_after seed steps = (life_after_all seed steps).committed

-- a call is answered as done just where it passes: then it leaves the room that the definitions of rooms say, its records stand at the journal's end, and what it appends is committed; any other call leaves the room and what is committed as they are
pub record CallKeeps (life : Life) (call : Call) (luck : Luck) : Type 0 where
  pub done : IsTrue (is_done (reply_to life call luck)) ↔ Passes life call luck
  pub room : Passes life call luck → (life_after life call luck).room ≡ room_then life.room call
  pub records : Passes life call luck
      → (life_after life call luck).room.journal ≡ life.room.journal ++ records_of life.room call
  pub committed : Passes life call luck
      → (life_after life call luck).committed ≡ committed_then life (append_of life call)
  pub otherwise : (Passes life call luck → ⊥) → (life_after life call luck).room ≡ life.room
  pub uncommitted : (Passes life call luck → ⊥)
      → (life_after life call luck).committed ≡ life.committed

-- along any run the seed stays; within a life the journal only grows at its end, by the records of the calls that pass; a crash leaves the committed records and maybe some of the first pending ones; so what is committed at a point stays at the front of the journal of each later point, in this life and in later ones
pub record LivesKeep : Type 0 where
  pub calls : (life : Life) (call : Call) (luck : Luck) → CallKeeps life call luck
  pub crashes_leave : (life : Life) (more place : ℕ)
      → (life_anew life more place).room.journal ≡ left_by life more
  pub seed : (seed : Seed) (steps : List Step) → (life_after_all seed steps).room.seed ≡ seed
  pub grows : (seed : Seed) (steps more : List Step) → IsTrue (list_all is_call more)
      → IsPrefix (journal_after seed steps) (journal_after seed (steps ++ more))
  pub within : (seed : Seed) (steps : List Step)
      → committed_after seed steps ≤ length (journal_after seed steps)
  pub stays : (seed : Seed) (steps more : List Step)
      → IsPrefix (committed_of (life_after_all seed steps)) (journal_after seed (steps ++ more))
  pub rises : (seed : Seed) (steps more : List Step)
      → committed_after seed steps ≤ committed_after seed (steps ++ more)
