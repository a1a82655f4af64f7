-- The lives that a kept room stands for.
use Rattle.std.specs.Prelude.{◌≡◌, ◌≤◌, ◌^◌, ℕ, List, [], Option, Some, None, length, min}
use Rattle.mw_protocol.specs.Lives.{Life, Outcome, passes, lacks, stops, StopCause, committed_of, pending_of}
use Rattle.mw_protocol.specs.Spelled.{records_bytes}
use Rattle.mw_journal.specs.Journal.{disk_of}
use Rattle.mw_journal.specs.declared.journal.Journal.{Journal}
use Rattle.mw_room.specs.Represents.{Represents}
use Rattle.mw_room.specs.declared.room.Room.{Room}
use Rattle.mw_keep.specs.Holds.{AreRecords, Holds}
use Rattle.mw_keep.specs.Views.{stopped_view}
use Rattle.mw_keep.specs.declared.kept.KeptRoom.{KeptRoom}
use Rattle.mw_keep.specs.declared.kept.Origin.{Origin}

abbrev pub journal_of : {D : Type 0} → KeptRoom D → Journal D
journal_of k = k.journal

abbrev pub room_of : {D : Type 0} → KeptRoom D → Room
room_of k = k.room

abbrev pub origin_of : {D : Type 0} → KeptRoom D → Origin D
origin_of k = k.origin

-- how many records it takes for committed
abbrev pub committed_by : {D : Type 0} → KeptRoom D → ℕ
committed_by k = k.committed

-- its disk
abbrev pub kept_disk : {D : Type 0} → KeptRoom D → D
kept_disk k = disk_of (journal_of k)

-- its room stands for the life's, its journal holds what is committed, the spellings of what is pending are at hand, and it knows how much is committed, why it has stopped and how many calls it has had, up to 2^63
pub record Keeps {D : Type 0} (may_leave : D → List ℕ → Type 0) (digest : List ℕ) (life : Life)
    (k : KeptRoom D) : Type 0 where
  pub room : Represents (room_of k) life.room
  pub records : AreRecords life.room.journal
  pub within : life.committed ≤ length life.room.journal
  pub holds : Holds may_leave digest (committed_of life) (pending_of life) life.place life.stopped
      (journal_of k)
  pub pending : k.pending ≡ records_bytes (pending_of life)
  pub committed : k.committed ≡ life.committed
  pub stopped : stopped_view k.stopped ≡ life.stopped
  pub calls : k.calls ≡ min life.calls (2 ^ 63)

-- why a room has stopped after an outcome, if it has
abbrev pub stopped_by : Outcome → Option StopCause → Option StopCause
stopped_by passes before = before
stopped_by lacks before = before
stopped_by (stops cause) before = Some cause

-- all but why it has stopped is as before
pub record IsSameButStopped {D : Type 0} (before after : KeptRoom D) : Type 0 where
  pub room : room_of after ≡ room_of before
  pub journal : journal_of after ≡ journal_of before
  pub pending : after.pending ≡ before.pending
  pub committed : after.committed ≡ before.committed
  pub calls : after.calls ≡ before.calls
  pub origin : origin_of after ≡ origin_of before

-- its life begins: nothing is pending, no call was made, and nothing has changed since it began
pub record IsFresh {D : Type 0} (k : KeptRoom D) : Type 0 where
  pub pending : k.pending ≡ []
  pub stopped : stopped_view k.stopped ≡ None
  pub calls : k.calls ≡ 0
  pub room : room_of k ≡ (origin_of k).room.value
  pub journal : journal_of k ≡ (origin_of k).journal.value
