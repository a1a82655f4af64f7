-- Texts that are whole records.
use Rattle.std.specs.Prelude.{◌≡◌, ◌≢◌, ℕ, List, [], ◌++◌, length}
use Rattle.std.specs.List.{AllByRecursion}
use Rattle.mw_protocol.specs.Records.{Record}
use Rattle.mw_protocol.specs.Spelled.{IsRecord, record_bytes, records_bytes}
use Rattle.mw_records.specs.declared.error.RecordError.{RecordError}
use Rattle.mw_records.specs.declared.error.RecordError.TheVariants.{BadRecord, Memory}
use Rattle.mw_journal.specs.Image.{Stands}

-- each has a spelling
abbrev pub AreRecords : List Record → Type 0
AreRecords records = AllByRecursion IsRecord records

-- a text begins with records, up to the first place at which none begins
pub record IsBadText (text : List ℕ) (at : ℕ) : Type 0 where
  pub before : List Record
  pub rest : List ℕ
  pub layout : text ≡ records_bytes before ++ rest
  pub records : AreRecords before
  pub place : at ≡ length (records_bytes before)
  pub some : rest ≢ []
  pub bad : (r : Record) (more : List ℕ) → IsRecord r → rest ≡ record_bytes r ++ more → ⊥

-- why a text gives no records
abbrev pub RefusesWhole : List ℕ → RecordError → Type 0
RefusesWhole text (BadRecord at) = IsBadText text at
RefusesWhole text Memory = Unit {0}

-- an image stands for a text that isn't whole records
abbrev pub HoldsBadText : List ℕ → List ℕ → ℕ → Type 0
HoldsBadText image digest at = (text : List ℕ) × Stands image digest text × IsBadText text at
