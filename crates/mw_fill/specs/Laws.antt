-- What is true of each try.
use Rattle.std.specs.Prelude.{◌≡◌}
use Rattle.mw_multi.specs.Joint.{Joint}
use Rattle.mw_fill.specs.Fill.{Outcome}
use Rattle.mw_fill.specs.Try.{Lists, IsOutcome}

-- a try comes to one thing
abbrev pub HasOneOutcome : Type 0
HasOneOutcome =
    (joint : Joint) (lists : Lists) (out other : Outcome) → IsOutcome joint lists out
    → IsOutcome joint lists other → out ≡ other
