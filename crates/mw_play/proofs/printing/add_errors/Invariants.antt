use Rattle.std.proofs.Common.{◌≡◌, ◌++◌, take}
use Rattle.std.specs.Prelude.{string_bytes}
use Rattle.std.specs.List.{flat_map}
use Rattle.mw_play.specs.Printing.{behind_blank}
use Rattle.mw_play.proofs.printing.add_errors.Given as goal

-- the errors so far
abbrev pub invariant-loop-error : goal.invariant-loop-error
invariant-loop-error l = string_bytes l.out ≡ string_bytes l.fn.out ++ flat_map behind_blank (take l.error-index l.errors)
