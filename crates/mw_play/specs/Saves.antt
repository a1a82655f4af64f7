-- What a save file stands for.
use Rattle.std.specs.Prelude.{◌≡◌, ◌≢◌, ◌<◌, ◌⊎◌, ℕ, List, [], ◌∷◌, ◌++◌, Option, Some}
use Rattle.sha2.specs.Sha256.{sha256}
use Rattle.mw_journal.specs.Image.{Stands}
use Rattle.mw_journal.specs.Journal.{StandsFor}
use Rattle.mw_journal.specs.Refused.{IsNotJournal, IsOtherSeed}
use Rattle.mw_journal.specs.declared.journal.Journal.{Journal}
use Rattle.mw_model.specs.Items.{NetItem}
use Rattle.mw_client.specs.Bodies.{IsSaved}
use Rattle.mw_play.specs.declared.save_error.SaveError.{SaveError}
use Rattle.mw_play.specs.declared.save_error.SaveError.TheVariants.{DiskFault, Refused, Memory}
use Rattle.mw_play.specs.declared.save_error.SaveRefusal.{SaveRefusal}
use Rattle.mw_play.specs.declared.save_error.SaveRefusal.TheVariants.{NotJournal, OtherSeed, BadBody}

-- the digest of a save file: of the game, a line feed and the slot's name (SHA-256, FIPS 180-4)
abbrev pub save_digest : List ℕ → List ℕ → List ℕ
save_digest game name = sha256 (game ++ 10 ∷ name)

-- an image of a save file's disk stands for a list
abbrev pub HoldsList : List ℕ → List ℕ → List NetItem → Type 0
HoldsList image digest list = (text : List ℕ) × Stands image digest text × IsSaved text list

-- the file's bytes do, or there are none and the list is empty
abbrev pub WasSaved : List ℕ → List ℕ → List NetItem → Type 0
WasSaved bytes digest list = ((bytes ≡ []) × (list ≡ [])) ⊎ HoldsList bytes digest list

-- a journal keeps a list: each image of its disk stands for it, and it takes further bodies
pub record KeepsList {D : Type 0} (may_leave : D → List ℕ → Type 0) (digest : List ℕ)
    (j : Journal D) (list : List NetItem) : Type 0 where
  pub text : List ℕ
  pub stands : StandsFor may_leave digest text j
  pub saved : IsSaved text list

-- the file's bytes are a journal of the digest, whose text isn't whole bodies
abbrev pub HoldsNoList : List ℕ → List ℕ → Type 0
HoldsNoList bytes digest =
    (text : List ℕ) × Stands bytes digest text × ((list : List NetItem) → IsSaved text list → ⊥)

-- why bytes give no list: some are there and are no journal, or are one of another digest, or one
-- whose text isn't whole bodies
abbrev pub IsRefused : List ℕ → List ℕ → SaveRefusal → Type 0
IsRefused bytes digest NotJournal = (bytes ≢ []) × ((at : ℕ) × IsNotJournal bytes digest at)
IsRefused bytes digest OtherSeed = (found : List ℕ) × IsOtherSeed bytes digest found
IsRefused bytes digest BadBody = HoldsNoList bytes digest

-- why a text gives no list
abbrev pub RefusesText : List ℕ → SaveError → Type 0
RefusesText text DiskFault = ⊥
RefusesText text (Refused NotJournal) = ⊥
RefusesText text (Refused OtherSeed) = ⊥
RefusesText text (Refused BadBody) = (list : List NetItem) → IsSaved text list → ⊥
RefusesText text Memory = Unit {0}

-- why a save file on a disk, which tells its bytes or nothing, gives none
abbrev pub RefusesSave : Option (List ℕ) → List ℕ → ℕ → ℕ → SaveError → Type 0
RefusesSave told digest before after DiskFault = before < after
RefusesSave told digest before after (Refused refusal) =
    (f : List ℕ) → told ≡ Some f → IsRefused f digest refusal
RefusesSave told digest before after Memory = Unit {0}
