-- What a crash leaves of a life's journal, and the life that goes on from it.
use Rattle.std.specs.Prelude.{◌≡◌, ℕ, List, Option, IsTrue, is_some}
use mathlib.Core.List.{IsPrefix}
use Rattle.mw_model.specs.Seed.{Seed}
use Rattle.mw_protocol.specs.Lives.{Life, committed_of, pending_of, life_anew}
use Rattle.mw_protocol.specs.Records.{Record}
use Rattle.mw_protocol.specs.Spelled.{records_bytes}
use Rattle.mw_journal.specs.Settled.{AllSettled}
use Rattle.mw_keep.specs.Holds.{AreRecords}
use Rattle.mw_keep.specs.Keeps.{Keeps}
use Rattle.mw_keep.specs.declared.kept.KeptRoom.{KeptRoom}

-- what a crash may leave is settled for what is committed in a life, and for the first of what is pending
pub record IsLeft (images : List ℕ → Type 0) (digest : List ℕ) (life : Life) : Type 0 where
  pub records : AreRecords life.room.journal
  pub batch : List Record
  pub first : IsPrefix batch (pending_of life)
  pub settled : AllSettled images digest (records_bytes (committed_of life)) (records_bytes batch)

-- the room's life is one that goes on from a life after a crash
pub record GoesOn {D : Type 0} (may_leave : D → List ℕ → Type 0) (digest : List ℕ) (life : Life)
    (k : KeptRoom D)
    : Type 0 where
  pub more : ℕ
  pub place : ℕ
  pub keeps : Keeps may_leave digest (life_anew life more place) k

-- where the disk tells its bytes, and a crash left it so in a life of the seed's room
abbrev pub WasLeft : Option (List ℕ) → (List ℕ → Type 0) → List ℕ → Seed → Life → Type 0
WasLeft told images digest seed life =
    IsTrue (is_some told) × (life.room.seed ≡ seed) × IsLeft images digest life
