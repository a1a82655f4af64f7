-- What a journal shows, and what an append leaves.
use Rattle.std.specs.Prelude.{◌≡◌, ◌⊎◌, ◌<◌, ◌≤◌, ◌^◌, ℕ, List, Result, Ok, Err}
use Rattle.mw_journal.specs.declared.error.AppendError.{AppendError}
use Rattle.mw_journal.specs.declared.error.AppendError.TheVariants.{DiskFault, JournalFull, Memory}
use Rattle.mw_journal.specs.declared.state.JournalState.{JournalState}
use Rattle.mw_journal.specs.declared.state.JournalState.TheVariants.{Whole, Faulted, OutOfMemory}
use Rattle.mw_journal.specs.declared.journal.Journal.{Journal}
use Rattle.mw_journal.specs.Settled.{AllShut}

-- its disk
abbrev pub disk_of : {D : Type 0} → Journal D → D
disk_of j = j.disk

-- the place of its first gate that isn't open
abbrev pub gate_of : {D : Type 0} → Journal D → ℕ
gate_of j = j.gate

-- whether it takes further batches
abbrev pub state_of : {D : Type 0} → Journal D → JournalState
state_of j = j.state

-- it takes further batches, and each image of its disk stands for a text, with 0 at its gate
abbrev pub StandsFor : {D : Type 0} → (D → List ℕ → Type 0) → List ℕ → List ℕ → Journal D → Type 0
StandsFor may_leave digest text j =
    (state_of j ≡ Whole) × AllShut (may_leave (disk_of j)) digest text (gate_of j)

-- the disk that `open` leaves, in a journal or handed back
abbrev pub disk_after : {D T E : Type 0} → Result (Journal D × T) (D × E) → D
disk_after (Ok opened) = disk_of opened.0
disk_after (Err refused) = refused.0

-- nothing of it changed, and no call was made on its disk
pub record IsSame {D : Type 0} (before after : Journal D) : Type 0 where
  pub disk : disk_of after ≡ disk_of before
  pub gate : gate_of after ≡ gate_of before
  pub state : state_of after ≡ state_of before

-- an append is refused as full exactly where the file would pass the limit
abbrev pub TellsFull : JournalState → ℕ → AppendError → Type 0
TellsFull state len (JournalFull told) = (told ≡ len) × (2 ^ 30 < len)
TellsFull state len DiskFault = state ≡ Whole → len ≤ 2 ^ 30
TellsFull state len Memory = state ≡ Whole → len ≤ 2 ^ 30

-- what an append leaves: a journal that a fault or want of memory broke answers just that, and
-- stays as it is
abbrev pub Leaves : Result (Unit {0}) AppendError → Type 0 → JournalState → JournalState → Type 0
Leaves (Ok done) same before after = (before ≡ Whole) × (after ≡ Whole)
Leaves (Err (JournalFull len)) same before after = (before ≡ Whole) × same
Leaves (Err DiskFault) same before after =
    (after ≡ Faulted) × ((before ≡ Whole) ⊎ ((before ≡ Faulted) × same))
Leaves (Err Memory) same before after = ((before ≡ Whole) × same)
    ⊎ ((before ≡ Whole) × (after ≡ OutOfMemory)) ⊎ ((before ≡ OutOfMemory) × same)
