-- Why a seed file gives no seed.
use Rattle.std.proofs.Common.{◌≤◌, ℕ, List, length, Option, Some, None, Err, Bool, false, inl, inr, sym, subst, arith}
use Rattle.mw_json.specs.Grammar.{Breach}
use Rattle.mw_multidata.specs.SeedOf.{SeedOf}
use Rattle.mw_causes.specs.SeedFiles.{IsFile, IsBadFile, IsSeedStopped, max_seed_file}
use Rattle.mw_causes.specs.declared.stop.Stop.{Stop}
use Rattle.mw_causes.specs.declared.stop.Stop.TheVariants.{Fault, Memory, Refused}
use Rattle.mw_causes.specs.declared.seed_cause.SeedCause.{SeedCause}
use Rattle.mw_causes.specs.declared.seed_cause.SeedCause.TheVariants.{File, TooLong}

short : (told : Option (Option (List ℕ))) (bytes : List ℕ) → IsFile told bytes → length bytes ≤ max_seed_file
short None bytes f = f
short (Some None) bytes f = absurd f
short (Some (Some held)) bytes f = subst (λ b. length b ≤ max_seed_file) (sym f.0) f.1

bad_file : (told : Option (Option (List ℕ))) (bytes : List ℕ) (breach : Breach) → IsFile told bytes → IsBadFile (Some (Some bytes)) breach → IsBadFile told breach
bad_file told bytes breach f (read, is, refused) = (bytes, f, subst (λ b. SeedOf b (Err breach)) is.0 refused)

-- what the bytes of a file don't give the file doesn't
pub unread_seed : (told : Option (Option (List ℕ))) (may_fail : Bool) (bytes : List ℕ) (stop : Stop SeedCause) → IsFile told bytes → IsSeedStopped (Some (Some bytes)) false stop → IsSeedStopped told may_fail stop
unread_seed told may_fail bytes Fault f (inl none) = cc
unread_seed told may_fail bytes Fault f (inr never) = cc
unread_seed told may_fail bytes Memory f h = tt
unread_seed told may_fail bytes (Refused (File kind path)) f h = bad_file told bytes record { kind = kind; path = path } f h
unread_seed told may_fail bytes (Refused TooLong) f h = absurd (omega (arith, h, short told bytes f))
