-- What an append of what is pending answers and leaves.
use Rattle.std.specs.Prelude.{◌≡◌, ◌<◌, ◌++◌, ℕ, List, [], Some, None, Result, Ok, Err, OnOk}
use mathlib.Core.List.{IsPrefix}
use Rattle.mw_disk.specs.Crash.{LeavesOnly}
use Rattle.mw_protocol.specs.Lives.{disk_fault, journal_full, Luck, faulty, Outcome, passes, lacks, stops, append, place_then}
use Rattle.mw_protocol.specs.Records.{Record}
use Rattle.mw_protocol.specs.Spelled.{records_bytes}
use Rattle.mw_journal.specs.Journal.{disk_of, state_of}
use Rattle.mw_journal.specs.Settled.{IsSettled}
use Rattle.mw_journal.specs.declared.error.AppendError.{AppendError}
use Rattle.mw_journal.specs.declared.error.AppendError.TheVariants.{DiskFault, JournalFull, Memory}
use Rattle.mw_journal.specs.declared.journal.Journal.{Journal}
use Rattle.mw_journal.specs.declared.state.JournalState.TheVariants.{Whole}
use Rattle.mw_keep.specs.Holds.{Holds}

-- what comes of an append
abbrev pub outcome_view : Result (Unit {0}) AppendError → Outcome
outcome_view (Ok done) = passes
outcome_view (Err DiskFault) = stops disk_fault
outcome_view (Err (JournalFull len)) = stops (journal_full len)
outcome_view (Err Memory) = lacks

-- at each moment a crash leaves what is settled for the kept records and one batch of the first pending ones
pub record StaysSettled {D : Type 0} (moment : D → ℕ) (left_since : D → ℕ → List ℕ → Type 0)
    (digest : List ℕ) (kept pending : List Record) (before after : D)
    : Type 0 where
  pub batch : List Record
  pub first : IsPrefix batch pending
  pub moments : LeavesOnly moment left_since before after
      (λ c. IsSettled c digest (records_bytes kept) (records_bytes batch))

-- how the journal holds what, after an outcome
abbrev pub HoldsAfter : {D : Type 0} → (D → List ℕ → Type 0) → List ℕ → List Record → List Record
    → ℕ → Outcome → Journal D → Type 0
HoldsAfter may_leave digest kept pending place passes j =
    Holds may_leave digest (kept ++ pending) [] (place_then place pending) None j
HoldsAfter may_leave digest kept pending place lacks j =
    Holds may_leave digest kept pending place None j
HoldsAfter may_leave digest kept pending place (stops cause) j =
    Holds may_leave digest kept pending place (Some cause) j

pub record Appends {D : Type 0} (may_leave : D → List ℕ → Type 0) (moment : D → ℕ)
    (left_since : D → ℕ → List ℕ → Type 0) (faults : D → ℕ)
    (digest : List ℕ) (kept pending : List Record) (place : ℕ)
    (before : Journal D) (result : Result (Unit {0}) AppendError) (after : Journal D)
    : Type 0 where
  pub luck : Luck
  pub outcome : outcome_view result ≡ append place luck pending
  pub holds : HoldsAfter may_leave digest kept pending place (outcome_view result) after
  -- the disk's bad luck is shown by its count
  pub fault : luck ≡ faulty → faults (disk_of before) < faults (disk_of after)
  pub settled : StaysSettled moment left_since digest kept pending (disk_of before)
      (disk_of after)
  pub whole : OnOk result (state_of before ≡ Whole → state_of after ≡ Whole)
