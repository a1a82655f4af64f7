-- Why `generate` makes no seed file, as a stop, with its status and its line.
use Rattle.std.specs.Prelude.{◌++◌, ℕ, List, codes, decimal}
use Rattle.mw_fill.specs.declared.seed.GenerateError.{GenerateError}
use Rattle.mw_fill.specs.declared.seed.GenerateError.TheVariants as refused
use Rattle.mw_causes.specs.Tables.{table_status, table_line}
use Rattle.mw_causes.specs.declared.stop.Stop.{Stop}
use Rattle.mw_causes.specs.declared.stop.Stop.TheVariants.{Memory, Refused}
use Rattle.mw_causes.specs.declared.generate_cause.GenerateCause.{GenerateCause}
use Rattle.mw_causes.specs.declared.generate_cause.GenerateCause.TheVariants.{Tables, NotBeatable, NotFull, TooManyItems, Exhausted}

-- a refusal of so many tries as a stop
abbrev pub generate_stop : ℕ → GenerateError → Stop GenerateCause
generate_stop tries (refused.NotBeatable slot) = Refused (NotBeatable slot)
generate_stop tries (refused.NotFull slot place) = Refused (NotFull slot place)
generate_stop tries (refused.TooManyItems have room) = Refused (TooManyItems have room)
generate_stop tries refused.Exhausted = Refused (Exhausted tries)
generate_stop tries refused.Memory = Memory

abbrev pub generate_status : GenerateCause → ℕ
generate_status (Tables cause) = table_status cause
generate_status (NotBeatable slot) = 3
generate_status (NotFull slot place) = 3
generate_status (TooManyItems have room) = 3
generate_status (Exhausted tries) = 4

abbrev pub generate_line : GenerateCause → List ℕ
generate_line (Tables cause) = table_line cause
generate_line (NotBeatable slot) = codes "not beatable: slot " ++ decimal slot ++ codes "\n"
generate_line (NotFull slot place) =
    codes "not full: slot "
    ++ (decimal slot ++ (codes " location " ++ (decimal place ++ codes "\n")))
generate_line (TooManyItems have room) =
    codes "too many items: " ++ decimal have ++ codes " for " ++ decimal room ++ codes " places\n"
generate_line (Exhausted tries) = codes "exhausted after " ++ decimal tries ++ codes " tries\n"
