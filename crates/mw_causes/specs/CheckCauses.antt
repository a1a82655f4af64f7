-- Why `check` finds that something isn't right, as a stop, with its status and its line.
use Rattle.std.specs.Prelude.{◌+◌, ◌++◌, ℕ, List, codes, decimal}
use Rattle.std.specs.Fmt.{signed_decimal}
use Rattle.mw_model.specs.Seed.{Spot}
use Rattle.mw_seeds.specs.declared.refusal.SeedRefusal.{SeedRefusal}
use Rattle.mw_seeds.specs.declared.refusal.SeedRefusal.TheVariants as found
use Rattle.mw_causes.specs.Tables.{table_status, table_line}
use Rattle.mw_causes.specs.SeedFiles.{seed_line}
use Rattle.mw_causes.specs.declared.stop.Stop.{Stop}
use Rattle.mw_causes.specs.declared.stop.Stop.TheVariants.{Memory, Refused}
use Rattle.mw_causes.specs.declared.check_cause.CheckCause.{CheckCause}
use Rattle.mw_causes.specs.declared.check_cause.CheckCause.TheVariants.{Tables, SeedFile, OtherLinks, OtherTables, GoalMissed, LocationMissed, Wrong, Missing}

-- what isn't right with a seed file, as a stop
abbrev pub wrong_stop : SeedRefusal → Stop CheckCause
wrong_stop found.OtherLinks = Refused OtherLinks
wrong_stop (found.OtherTables slot location) = Refused (OtherTables slot location)
wrong_stop (found.GoalMissed slot) = Refused (GoalMissed slot)
wrong_stop (found.LocationMissed slot place) = Refused (LocationMissed slot place)
wrong_stop (found.Wrong sphere place) = Refused (Wrong sphere place)
wrong_stop (found.Missing sphere place) = Refused (Missing sphere place)
wrong_stop found.Memory = Memory

abbrev pub check_status : CheckCause → ℕ
check_status (Tables cause) = table_status cause
check_status (SeedFile cause) = 7
check_status OtherLinks = 1
check_status (OtherTables slot location) = 1
check_status (GoalMissed slot) = 1
check_status (LocationMissed slot place) = 1
check_status (Wrong sphere place) = 1
check_status (Missing sphere place) = 1

-- a location in a sphere, which counts from 0
abbrev pub place_text : ℕ → Spot → List ℕ
place_text sphere place =
    decimal (sphere + 1)
    ++ (codes ": slot "
    ++ (decimal place.slot ++ (codes " location " ++ (decimal place.index ++ codes "\n"))))

abbrev pub check_line : CheckCause → List ℕ
check_line (Tables cause) = table_line cause
check_line (SeedFile cause) = seed_line cause
check_line OtherLinks = codes "check failed: other links\n"
check_line (OtherTables slot location) =
    codes "check failed: other tables at slot "
    ++ (decimal slot ++ (codes " location " ++ (signed_decimal location ++ codes "\n")))
check_line (GoalMissed slot) = codes "check failed: goal of slot " ++ decimal slot ++ codes "\n"
check_line (LocationMissed slot place) =
    codes "check failed: location "
    ++ (decimal place ++ (codes " of slot " ++ (decimal slot ++ codes "\n")))
check_line (Wrong sphere place) = codes "check failed: wrong in sphere " ++ place_text sphere place
check_line (Missing sphere place) =
    codes "check failed: missing in sphere " ++ place_text sphere place
