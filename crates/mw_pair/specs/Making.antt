-- What making a pair room in a folder leaves.
use Rattle.std.specs.Prelude.{◌≡◌, ◌≢◌, ℕ, List, [], Option, Some, Result, Ok, Err}
use Rattle.mw_disk.specs.Crash.{Stays}
use Rattle.mw_edges.specs.Folders.{opened_bytes}
use Rattle.mw_journal.specs.Settled.{AllShut}
use Rattle.mw_checkpoint.specs.Created.{ArePairEmpty, HasNone, IsStopped, OnEach, disk_at}
use Rattle.mw_checkpoint.specs.declared.error.PairError.{PairError}
use Rattle.mw_checkpoint.specs.declared.error.PairError.TheVariants.{DiskFault, NotEmpty, NotJournal, OtherSeed, BadChoice, BadRecord, ChoiceFull, Memory}
use Rattle.mw_checkpoint.specs.declared.files.Files.{Files}
use Rattle.mw_pair.specs.Names.{IsOneOf, file_names}

-- each of the three files had no byte, where the folder tells its bytes; whatever a crash leaves of
-- it stands for the empty text under the digest, with 0 at its first gate
pub record IsMadeIn (before : List ℕ → Option (Option (List ℕ)))
    (may_leave : List ℕ → List ℕ → Type 0) (choice digest : List ℕ)
    : Type 0 where
  pub empty : (n : List ℕ) → IsOneOf choice n → (f : List ℕ)
      → opened_bytes (before n) ≡ Some f → f ≡ []
  pub shut : (n : List ℕ) → IsOneOf choice n → AllShut (may_leave n) digest [] 40

-- why it isn't made: a byte stands in one of the three
abbrev pub RefusesMaking : (List ℕ → Option (Option (List ℕ))) → List ℕ → PairError → Type 0
RefusesMaking before choice (DiskFault place) = Unit {0}
RefusesMaking before choice (NotEmpty place) = (f : List ℕ)
    → opened_bytes (before (disk_at place (file_names choice))) ≡ Some f → f ≢ []
RefusesMaking before choice (NotJournal place at) = ⊥
RefusesMaking before choice (OtherSeed place found) = ⊥
RefusesMaking before choice (BadChoice at) = ⊥
RefusesMaking before choice (BadRecord at) = ⊥
RefusesMaking before choice (ChoiceFull len) = ⊥
RefusesMaking before choice Memory = Unit {0}

-- the folder tells a file's bytes, and there is one
abbrev pub TellsByte : Option (Option (List ℕ)) → Type 0
TellsByte file = (f : List ℕ) × (opened_bytes file ≡ Some f) × (f ≢ [])

-- each of the three in which a byte stands was read at most
abbrev pub BytesStay : (before after : List ℕ → Option (Option (List ℕ)))
    → (might_leave may_leave : List ℕ → List ℕ → Type 0) → List ℕ → Type 0
BytesStay before after might_leave may_leave choice = (n : List ℕ) → IsOneOf choice n
    → TellsByte (before n) → (after n ≡ before n) × Stays (might_leave n) (may_leave n)

-- three disks without bytes are empty journals now; or they were made up to one that gave none
abbrev pub MadeFiles : {D : Type 0} → (D → Option (List ℕ)) → (D → List ℕ → Type 0) → (D → ℕ)
    → (D → ℕ → List ℕ → Type 0) → (D → ℕ) → List ℕ → Files D → Files D
    → Result (Unit {0}) PairError → Type 0
MadeFiles told may_leave moment left_since faults digest before after (Ok made) =
    ArePairEmpty may_leave digest after × OnEach (λ b a. HasNone told b) before after
MadeFiles told may_leave moment left_since faults digest before after (Err error) =
    IsStopped told may_leave moment left_since faults digest before after error
