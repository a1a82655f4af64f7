-- Seed files that are read.
use Rattle.std.specs.Prelude.{◌≡◌, ◌++◌, ℕ, List, Option, Ok, Err, Bool, codes, ⊤}
use Rattle.mw_edges.specs.Folders.{GivesFile, MayBeUnread}
use Rattle.mw_edges.specs.declared.folder.FileRead.TheVariants.{Whole, Longer}
use Rattle.mw_json.specs.Grammar.{Breach}
use Rattle.mw_json.specs.Paths.{kind_text, path_text}
use Rattle.mw_model.specs.Seed.{Seed}
use Rattle.mw_multidata.specs.Digest.{digest_of}
use Rattle.mw_multidata.specs.SeedOf.{SeedOf}
use Rattle.mw_causes.specs.declared.stop.Stop.{Stop}
use Rattle.mw_causes.specs.declared.stop.Stop.TheVariants.{Fault, Memory, Refused}
use Rattle.mw_causes.specs.declared.seed_cause.SeedCause.{SeedCause}
use Rattle.mw_causes.specs.declared.seed_cause.SeedCause.TheVariants.{File, TooLong}

-- the greatest length of a seed file
abbrev pub max_seed_file : ℕ
max_seed_file = 67108864

-- these bytes are within the limit, and where the folder tells a file's bytes, they are these
abbrev pub IsFile : Option (Option (List ℕ)) → List ℕ → Type 0
IsFile file bytes = GivesFile file max_seed_file (Whole bytes)

-- where the folder tells a file's bytes, they are more than the limit
abbrev pub IsLongFile : Option (Option (List ℕ)) → Type 0
IsLongFile file = GivesFile file max_seed_file Longer

-- a seed file is refused
abbrev pub IsBadFile : Option (Option (List ℕ)) → Breach → Type 0
IsBadFile file breach = (bytes : List ℕ) × IsFile file bytes × SeedOf bytes (Err breach)

-- a seed file stands for this seed
pub record SeedIn (file : Option (Option (List ℕ))) (seed : Seed) : Type 0 where
  pub bytes : List ℕ
  pub is_file : IsFile file bytes
  pub is : SeedOf bytes (Ok seed)

-- the same, and this is the digest of its bytes
pub record DigestedIn (file : Option (Option (List ℕ))) (seed : Seed) (digest : List ℕ)
    : Type 0 where
  pub bytes : List ℕ
  pub is_file : IsFile file bytes
  pub is : SeedOf bytes (Ok seed)
  pub digested : digest ≡ digest_of bytes

-- why a seed file gives no seed, of a folder that may fail so
abbrev pub IsSeedStopped : Option (Option (List ℕ)) → Bool → Stop SeedCause → Type 0
IsSeedStopped file may_fail Fault = MayBeUnread file may_fail
IsSeedStopped file may_fail Memory = ⊤
IsSeedStopped file may_fail (Refused (File kind path)) =
    IsBadFile file record { kind = kind; path = path }
IsSeedStopped file may_fail (Refused TooLong) = IsLongFile file

-- ---- statuses and lines

abbrev pub seed_status : SeedCause → ℕ
seed_status cause = 7

abbrev pub seed_line : SeedCause → List ℕ
seed_line (File kind path) =
    codes "multidata refused: " ++ kind_text kind ++ codes " " ++ path_text path ++ codes "\n"
seed_line TooLong = codes "multidata refused: TooLong /\n"
