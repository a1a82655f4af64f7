-- How a journal holds records: whole, or broken by an append, as a crash may leave it.
use Rattle.std.specs.Prelude.{◌≡◌, ◌≢◌, ◌⊎◌, ℕ, List, Option, Some}
use Rattle.std.specs.List.{AllByRecursion}
use mathlib.Core.List.{IsPrefix}
use Rattle.mw_protocol.specs.Lives.{StopCause, disk_fault}
use Rattle.mw_protocol.specs.Records.{Record}
use Rattle.mw_protocol.specs.Spelled.{IsRecord, records_bytes}
use Rattle.mw_journal.specs.Journal.{StandsFor, disk_of, gate_of, state_of}
use Rattle.mw_journal.specs.Settled.{AllSettled}
use Rattle.mw_journal.specs.declared.journal.Journal.{Journal}
use Rattle.mw_journal.specs.declared.state.JournalState.TheVariants.{Whole, Faulted}

-- each has a spelling
abbrev pub AreRecords : List Record → Type 0
AreRecords records = AllByRecursion IsRecord records

-- it takes further batches: each image of its disk stands for the records, and has 0 at the gate at a place
pub record IsSafe {D : Type 0} (may_leave : D → List ℕ → Type 0) (digest : List ℕ)
    (kept : List Record) (place : ℕ) (j : Journal D)
    : Type 0 where
  pub stands : StandsFor may_leave digest (records_bytes kept) j
  pub here : gate_of j ≡ place

-- an append broke it: each image of its disk is settled for the records and the first of those that are pending
pub record IsBroken {D : Type 0} (may_leave : D → List ℕ → Type 0) (digest : List ℕ)
    (kept pending : List Record)
    (stopped : Option StopCause) (j : Journal D)
    : Type 0 where
  pub broken : state_of j ≢ Whole
  pub fault : state_of j ≡ Faulted → stopped ≡ Some disk_fault
  pub batch : List Record
  pub first : IsPrefix batch pending
  pub settled : AllSettled (may_leave (disk_of j)) digest (records_bytes kept) (records_bytes batch)

abbrev pub Holds : {D : Type 0} → (D → List ℕ → Type 0) → List ℕ → List Record → List Record → ℕ
    → Option StopCause → Journal D → Type 0
Holds may_leave digest kept pending place stopped j =
    IsSafe may_leave digest kept place j ⊎ IsBroken may_leave digest kept pending stopped j
