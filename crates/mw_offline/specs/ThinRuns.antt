-- How `thin` ends.
use Rattle.std.specs.Prelude.{◌≡◌, ◌⊎◌, ℕ, List, ◌++◌, Option, Some, Ok, codes, decimal}
use Rattle.std.specs.Io.KnownBytes.{Keeps, Appends}
use Rattle.mw_edges.specs.Causes.{PutsFront}
use Rattle.mw_model.specs.Seed.{Seed}
use Rattle.mw_multidata.specs.Digest.{digest_of}
use Rattle.mw_multidata.specs.SeedOf.{SeedOf}
use Rattle.mw_checkpoint.specs.declared.error.PairError.{PairError}
use Rattle.mw_checkpoint.specs.declared.switching.Kept.{Kept}
use Rattle.mw_causes.specs.Ends.{Told, Ended, stop_with}
use Rattle.mw_causes.specs.PairCauses.{thin_line, thin_status, thin_stop}
use Rattle.mw_causes.specs.SeedFiles.{DigestedIn, IsSeedStopped}
use Rattle.mw_causes.specs.declared.seed_cause.SeedCause.{SeedCause}
use Rattle.mw_causes.specs.declared.stop.Stop.{Stop}
use Rattle.mw_causes.specs.declared.stop.Stop.TheVariants.{Fault, Memory}
use Rattle.mw_causes.specs.declared.thin_cause.ThinCause.{ThinCause}
use Rattle.mw_causes.specs.declared.thin_cause.ThinCause.TheVariants.{SeedFile}
use Rattle.mw_pair.specs.Thinning.{AreThinned, KeepsPair, RefusesThin}
use Rattle.mw_offline.specs.FilesAround.{FilesAround, IsUntouched}
use Rattle.mw_offline.specs.PairFiles.{PairOthersStay}
use Rattle.mw_words.specs.declared.command_line.ThinWords.{ThinWords}

-- the seed file is accepted; the three files stood for records as they were read, and each three
-- images of them stand for what counts of these, which has this length, and the records that
pub record IsThinnedIn (files : FilesAround) (room : ThinWords) (kept : Kept) : Type 0 where
  pub seed : Seed
  pub digest : List ℕ
  pub seed_in : DigestedIn (files.before room.multidata) seed digest
  pub thinned : AreThinned files.before files.may_leave room.choice digest kept

-- `kept K of N records`
abbrev pub kept_text : Kept → List ℕ
kept_text kept =
    codes "kept " ++ (decimal kept.kept
    ++ (codes " of " ++ (decimal kept.of ++ codes " records\n")))

-- and just that was put
pub record ThinDone (files : FilesAround) (room : ThinWords) (old new : Option (List ℕ)) : Type 0
  where
    pub kept : Kept
    pub thinned : IsThinnedIn files room kept
    pub put : Appends old new (kept_text kept)

-- ---- stops

-- the seed file gave no seed: no file was touched
pub record ThinUnread (files : FilesAround) (room : ThinWords) (stop : Stop ThinCause) : Type 0
  where
    pub seed_stop : Stop SeedCause
    pub is : stop ≡ stop_with SeedFile seed_stop
    pub cause : IsSeedStopped (files.before room.multidata) files.may_fail seed_stop
    pub files_stay : (n : List ℕ) → IsUntouched files n

-- it gave one, and then a file was refused, a disk failed, or memory ran out
pub record ThinRefused (files : FilesAround) (room : ThinWords) (stop : Stop ThinCause) : Type 0
  where
    pub seed : Seed
    pub digest : List ℕ
    pub seed_in : DigestedIn (files.before room.multidata) seed digest
    pub error : PairError
    pub is : stop ≡ thin_stop error
    pub refused : RefusesThin files.before room.choice digest error

abbrev pub ThinFails : FilesAround → ThinWords → Stop ThinCause → Type 0
ThinFails files room stop = ThinUnread files room stop ⊎ ThinRefused files room stop

-- the other journal counts, and a front of the text was put
pub record ThinUntold (files : FilesAround) (room : ThinWords) (old new : Option (List ℕ))
    (stop : Stop ThinCause)
    : Type 0 where
  pub kept : Kept
  pub thinned : IsThinnedIn files room kept
  pub late : (stop ≡ Fault) ⊎ (stop ≡ Memory)
  pub front : PutsFront old new (kept_text kept)

abbrev pub ThinStopped : FilesAround → ThinWords → Option (List ℕ) → Option (List ℕ)
    → Stop ThinCause → Type 0
ThinStopped files room old new stop =
    (ThinFails files room stop × Keeps old new) ⊎ ThinUntold files room old new stop

-- ---- ends

-- where the seed file is told, and what a crash might have left of the three was settled, each three
-- images stand for one of the records for which they might have stood, or for what counts of such;
-- and what a crash may leave of the three is settled so, where they were told
abbrev pub ThinKeeps : FilesAround → ThinWords → Type 0
ThinKeeps files room = (bytes : List ℕ) (seed : Seed)
    → files.before room.multidata ≡ Some (Some bytes) → SeedOf bytes (Ok seed)
    → KeepsPair files.before files.might_leave files.may_leave room.choice (digest_of bytes)

-- how `thin` ended with a status, with what the out sink held
pub record ThinEnds (status : ℕ) (files : FilesAround) (room : ThinWords) (out told : Told)
    : Type 0 where
  pub ends : ((status ≡ 0) × ThinDone files room out.old out.new × Keeps told.old told.new)
      ⊎ ((stop : Stop ThinCause) × ThinStopped files room out.old out.new stop
      × Ended thin_status thin_line stop status told)
  pub others : PairOthersStay files room.choice
  -- whatever the status is
  pub keeps : ThinKeeps files room
