-- What a command that writes files did to its folder.
use Rattle.std.specs.Prelude.{◌≡◌, ◌≢◌, ◌⊎◌, ℕ, List, Option, Bool}
use Rattle.std.specs.Io.KnownBytes.{Keeps}
use Rattle.mw_edges.specs.Causes.{Rose}
use Rattle.mw_edges.specs.Folders.{IsWritten}
use Rattle.mw_causes.specs.Ends.{Told}
use Rattle.mw_causes.specs.Tables.{Files}

-- what a folder's files were before and after, whether its reads might fail, and how often it had
-- refused a write
pub record Wrote : Type 0 where
  pub before : Files
  pub after : Files
  pub may_fail : Bool
  pub refused_before : ℕ
  pub refused_after : ℕ

-- the same of a folder, before and after, which holds and counts so
abbrev pub wrote_by : {F : Type 0} → (F → Files) → (F → Bool) → (F → ℕ) → F → F → Wrote
wrote_by holds may_fail refusals old new = record {
  before = holds old;
  after = holds new;
  may_fail = may_fail old;
  refused_before = refusals old;
  refused_after = refusals new;
}

-- each file but this one is as it was
abbrev pub SameBut : List ℕ → Files → Files → Type 0
SameBut name before after = (n : List ℕ) → n ≢ name → after n ≡ before n

abbrev pub Same : Files → Files → Type 0
Same before after = (n : List ℕ) → after n ≡ before n

-- no file is touched and nothing is put
pub record Untouched (wrote : Wrote) (old new : Option (List ℕ)) : Type 0 where
  pub files : Same wrote.before wrote.after
  pub put : Keeps old new

-- the named file holds these bytes
abbrev pub HasFile : Wrote → List ℕ → List ℕ → Type 0
HasFile wrote name bytes = IsWritten (wrote.before name) (wrote.after name) bytes

-- the out sink failed, or the folder refused the write
abbrev pub HasFailed : Wrote → Told → Type 0
HasFailed wrote out = Rose out.before out.now ⊎ Rose wrote.refused_before wrote.refused_after
