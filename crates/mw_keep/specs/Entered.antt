-- What the records of a journal's text make of a room, one after another.
use Rattle.std.specs.Prelude.{◌≡◌, ◌≢◌, ℕ, List, [], ◌∷◌, ◌++◌, length, drop, IsTrue, IsFalse}
use Rattle.mw_laws.specs.Told.{recording_more}
use Rattle.mw_model.specs.Seed.{Seed}
use Rattle.mw_protocol.specs.Named.{are_named, is_named}
use Rattle.mw_protocol.specs.Records.{Record}
use Rattle.mw_protocol.specs.Rooms.{Room as Plain, replayed}
use Rattle.mw_protocol.specs.Spelled.{IsRecord, Begins, Spells, record_bytes, records_bytes}
use Rattle.mw_room.specs.Represents.{Represents}
use Rattle.mw_room.specs.declared.room.Room.{Room}
use Rattle.mw_keep.specs.Holds.{AreRecords}
use Rattle.mw_keep.specs.declared.error.KeepError.{KeepError}
use Rattle.mw_keep.specs.declared.error.KeepError.TheVariants.{BadSeed, DiskFault, NotJournal, OtherSeed, BadRecord, Memory}

-- records that have spellings, and name only what the seed has
pub record AreSound (seed : Seed) (records : List Record) : Type 0 where
  pub spelled : AreRecords records
  pub named : IsTrue (are_named seed records)

-- the first place in a text at which no record begins, or one that names what the seed hasn't
pub record IsBadRecord (seed : Seed) (text : List ℕ) (at : ℕ) : Type 0 where
  pub before : List Record
  pub rest : List ℕ
  pub layout : text ≡ records_bytes before ++ rest
  pub sound : AreSound seed before
  pub place : at ≡ length (records_bytes before)
  pub some : rest ≢ []
  pub bad : (r : Record) (more : List ℕ) → IsRecord r → rest ≡ record_bytes r ++ more
      → IsFalse (is_named seed r)

-- ---- one record

-- the record of a place was entered, which ends at another
pub record IsEntered (r : Plain) (text : List ℕ) (at next : ℕ) (room : Room) : Type 0 where
  pub entry : Record
  pub spells : Spells text at next entry
  pub named : IsTrue (is_named r.seed entry)
  pub stands : Represents room (recording_more (entry ∷ []) r)

-- none was: no record begins at the place, or one that names what the seed hasn't; or memory ran out
abbrev pub RefusesRecord : Seed → List ℕ → ℕ → KeepError → Type 0
RefusesRecord seed text at (BadSeed kind path) = ⊥
RefusesRecord seed text at DiskFault = ⊥
RefusesRecord seed text at (NotJournal place) = ⊥
RefusesRecord seed text at (OtherSeed found) = ⊥
RefusesRecord seed text at (BadRecord place) =
    (place ≡ at) × ((r : Record) → Begins text at r → IsFalse (is_named seed r))
RefusesRecord seed text at Memory = Unit {0}

-- ---- all of them

-- those of a text up to a place were entered
pub record HasEntered (seed : Seed) (text : List ℕ) (at : ℕ) (room : Room) : Type 0 where
  pub journal : List Record
  pub stands : Represents room (replayed seed journal)
  pub sound : AreSound seed journal
  pub layout : text ≡ records_bytes journal ++ drop at text
  pub place : at ≡ length (records_bytes journal)

-- not all were
abbrev pub RefusesText : Seed → List ℕ → KeepError → Type 0
RefusesText seed text (BadSeed kind path) = ⊥
RefusesText seed text DiskFault = ⊥
RefusesText seed text (NotJournal place) = ⊥
RefusesText seed text (OtherSeed found) = ⊥
RefusesText seed text (BadRecord at) = IsBadRecord seed text at
RefusesText seed text Memory = Unit {0}
