-- The script that is read from the input.
use Rattle.std.specs.Prelude.{◌≡◌, ◌≤◌, ◌⊎◌, ℕ, List, length, Option, Ok, Err}
use Rattle.std.specs.Io.KnownBytes.{Consumes, IsAtEnd}
use Rattle.mw_script.specs.Commands.{Command}
use Rattle.mw_script.specs.Script.{max_script, script_of}
use Rattle.mw_drive.specs.declared.error.DriveError.{DriveError}
use Rattle.mw_drive.specs.declared.error.DriveError.TheVariants.{Fault, Memory, Script}

-- these bytes were taken from the source, to its end unless they pass a script's limit
pub record IsRead (before after : Option (List ℕ)) (script : List ℕ) : Type 0 where
  pub taken : Consumes before after script
  pub ended : length script ≤ max_script → IsAtEnd after

-- a script was read to its end, and these are its commands
pub record HasScript (before after : Option (List ℕ)) (cs : List Command) : Type 0 where
  pub script : List ℕ
  pub is_read : IsRead before after script
  pub at_end : IsAtEnd after
  pub judged : script_of script ≡ Ok cs

-- why none was: the outside failed, or what was read is refused at a line
abbrev pub HasNoScript : Option (List ℕ) → Option (List ℕ) → DriveError → Type 0
HasNoScript before after error = (error ≡ Fault) ⊎ (error ≡ Memory)
    ⊎ ((line : ℕ) × (script : List ℕ) × (error ≡ Script line) × IsRead before after script
    × (script_of script ≡ Err line))
