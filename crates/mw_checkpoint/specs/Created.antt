-- What `create_pair` leaves.
use Rattle.std.specs.Prelude.{◌≡◌, ◌≢◌, ◌<◌, ℕ, zero, suc, List, [], Option, Some}
use Rattle.mw_journal.specs.Reads.{OnlyReads}
use Rattle.mw_journal.specs.Settled.{AllShut}
use Rattle.mw_checkpoint.specs.declared.error.PairError.{PairError}
use Rattle.mw_checkpoint.specs.declared.error.PairError.TheVariants.{DiskFault, NotEmpty, NotJournal, OtherSeed, BadChoice, BadRecord, ChoiceFull, Memory}
use Rattle.mw_checkpoint.specs.declared.files.Files.{Files}

-- each image of a disk stands for the empty text, with 0 at its first gate
abbrev pub IsEmpty : {D : Type 0} → (D → List ℕ → Type 0) → List ℕ → D → Type 0
IsEmpty may_leave digest disk = AllShut (may_leave disk) digest [] 40

-- of each of the three disks
pub record ArePairEmpty {D : Type 0} (may_leave : D → List ℕ → Type 0) (digest : List ℕ)
    (files : Files D)
    : Type 0 where
  pub choice : IsEmpty may_leave digest files.choice
  pub first : IsEmpty may_leave digest files.zero
  pub second : IsEmpty may_leave digest files.one

-- each of three disks is to what it was as R says
pub record OnEach {D : Type 0} (R : D → D → Type 0) (before after : Files D) : Type 0 where
  pub choice : R before.choice after.choice
  pub first : R before.zero after.zero
  pub second : R before.one after.one

-- a disk that tells its bytes has none
abbrev pub HasNone : {D : Type 0} → (D → Option (List ℕ)) → D → Type 0
HasNone told disk = (f : List ℕ) → told disk ≡ Some f → f ≡ []

-- the disk of a place
abbrev pub disk_at : {D : Type 0} → ℕ → Files D → D
disk_at zero files = files.choice
disk_at (suc zero) files = files.zero
disk_at (suc (suc place)) files = files.one

-- the disks before a place had no bytes and are empty journals, and those behind it are as they were
abbrev pub IsMadeUpTo : {D : Type 0} → (D → Option (List ℕ)) → (D → List ℕ → Type 0) → List ℕ → ℕ
    → Files D → Files D → Type 0
IsMadeUpTo told may_leave digest zero before after =
    (after.zero ≡ before.zero) × (after.one ≡ before.one)
IsMadeUpTo told may_leave digest (suc zero) before after =
    (HasNone told before.choice × IsEmpty may_leave digest after.choice)
    × (after.one ≡ before.one)
IsMadeUpTo told may_leave digest (suc (suc place)) before after =
    (HasNone told before.choice × IsEmpty may_leave digest after.choice)
    × (HasNone told before.zero × IsEmpty may_leave digest after.zero)

-- why the journal at a place wasn't created
abbrev pub RefusesMaking : ℕ → Option (List ℕ) → ℕ → ℕ → PairError → Type 0
RefusesMaking place told before after (DiskFault at) = (at ≡ place) × (before < after)
RefusesMaking place told before after (NotEmpty at) =
    (at ≡ place) × ((f : List ℕ) → told ≡ Some f → f ≢ [])
RefusesMaking place told before after (NotJournal at byte) = ⊥
RefusesMaking place told before after (OtherSeed at found) = ⊥
RefusesMaking place told before after (BadChoice at) = ⊥
RefusesMaking place told before after (BadRecord at) = ⊥
RefusesMaking place told before after (ChoiceFull len) = ⊥
RefusesMaking place told before after Memory = Unit {0}

-- one disk gave no journal; where a byte stands on it, nothing was written
pub record IsUnmade {D : Type 0} (told : D → Option (List ℕ)) (may_leave : D → List ℕ → Type 0)
    (moment : D → ℕ) (left_since : D → ℕ → List ℕ → Type 0) (faults : D → ℕ)
    (place : ℕ) (before after : D) (error : PairError)
    : Type 0 where
  pub refused : RefusesMaking place (told before) (faults before) (faults after) error
  pub read : (at : ℕ) → error ≡ NotEmpty at
      → OnlyReads told may_leave moment left_since faults before after
  pub untouched : (f : List ℕ) → told before ≡ Some f → f ≢ []
      → OnlyReads told may_leave moment left_since faults before after

-- the journals were created up to a place, whose disk gave none
pub record IsStopped {D : Type 0} (told : D → Option (List ℕ)) (may_leave : D → List ℕ → Type 0)
    (moment : D → ℕ) (left_since : D → ℕ → List ℕ → Type 0) (faults : D → ℕ)
    (digest : List ℕ) (before after : Files D) (error : PairError)
    : Type 0 where
  pub place : ℕ
  pub made : IsMadeUpTo told may_leave digest place before after
  pub unmade : IsUnmade told may_leave moment left_since faults place
      (disk_at place before) (disk_at place after) error
