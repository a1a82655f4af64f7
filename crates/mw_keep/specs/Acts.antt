-- What a call on a kept room answers and leaves.
use Rattle.std.specs.Prelude.{◌≡◌, ◌<◌, ℕ, List, [], Bool, true, false, IsTrue}
use Rattle.mw_journal.specs.Journal.{state_of}
use Rattle.mw_journal.specs.declared.state.JournalState.TheVariants.{Whole}
use Rattle.mw_protocol.specs.Lives.{Call, Reply, opens, done, messages, gone, overrun, stopped, memory, Life, Luck, faulty, append_of, appended, committed_of, pending_of, life_after, life_of, outcome, reply_of, reply_to}
use Rattle.mw_keep.specs.Appends.{StaysSettled}
use Rattle.mw_keep.specs.Keeps.{Keeps, journal_of, kept_disk}
use Rattle.mw_keep.specs.declared.kept.KeptRoom.{KeptRoom}

-- a reply which says neither that memory was wanting nor that the room has stopped
abbrev pub is_answered : Reply → Bool
is_answered (opens number) = true
is_answered done = true
is_answered (messages texts) = true
is_answered gone = true
is_answered overrun = true
is_answered (stopped cause) = false
is_answered memory = false

-- an answer leaves the journal whole, if it was
abbrev pub StaysWhole : {D : Type 0} → KeptRoom D → Reply → KeptRoom D → Type 0
StaysWhole before reply after =
    IsTrue (is_answered reply) → state_of (journal_of before) ≡ Whole
    → state_of (journal_of after) ≡ Whole

-- it is a call of the life, with some luck
pub record Acts {D : Type 0} (may_leave : D → List ℕ → Type 0) (moment : D → ℕ)
    (left_since : D → ℕ → List ℕ → Type 0) (faults : D → ℕ)
    (digest : List ℕ) (life : Life) (call : Call) (before : KeptRoom D) (reply : Reply)
    (after : KeptRoom D)
    : Type 0 where
  pub luck : Luck
  pub replies : reply ≡ reply_to life call luck
  pub keeps : Keeps may_leave digest (life_after life call luck) after
  -- the disk's bad luck is shown by its count
  pub fault : luck ≡ faulty → faults (kept_disk before) < faults (kept_disk after)
  -- at each moment a crash leaves what is committed, or this and the first of what is pending
  pub settled : StaysSettled moment left_since digest (committed_of life) (pending_of life)
      (kept_disk before) (kept_disk after)
  -- without an append nothing is done on the disk
  pub quiet : appended life call ≡ [] → kept_disk after ≡ kept_disk before
  pub whole : StaysWhole before reply after

-- the same of a call that isn't refused and was counted before
pub record Goes {D : Type 0} (may_leave : D → List ℕ → Type 0) (moment : D → ℕ)
    (left_since : D → ℕ → List ℕ → Type 0) (faults : D → ℕ)
    (digest : List ℕ) (life : Life) (call : Call) (before : KeptRoom D) (reply : Reply)
    (after : KeptRoom D)
    : Type 0 where
  pub luck : Luck
  pub replies : reply ≡ reply_of life.room call (outcome life call luck)
  pub keeps : Keeps may_leave digest (life_of life call (outcome life call luck)) after
  pub fault : luck ≡ faulty → faults (kept_disk before) < faults (kept_disk after)
  pub settled : StaysSettled moment left_since digest (committed_of life) (pending_of life)
      (kept_disk before) (kept_disk after)
  pub quiet : append_of life call ≡ [] → kept_disk after ≡ kept_disk before
  pub whole : StaysWhole before reply after
