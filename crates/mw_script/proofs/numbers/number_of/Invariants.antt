use Rattle.std.proofs.Common.{◌≡◌, ◌<◌, ◌^◌, drop}
use Rattle.mw_script.proofs.Digits.{number_after}
use Rattle.mw_script.proofs.numbers.number_of.Given as goal

-- what the digits that are left write after those that were read
abbrev pub invariant-loop-byte : goal.invariant-loop-byte
invariant-loop-byte l = record { same : number_after l.value (drop l.byte-index l.digits) ≡ number_after 0 l.digits; small : l.value < 2 ^ 64 }
