use Rattle.std.proofs.Common.{◌≡◌, take, length}
use Rattle.std.specs.List.{AllZip}
use Rattle.mw_native.specs.Told.{IsNamed}
use Rattle.mw_clock.specs.Clockwork.{clock_rules}
use Rattle.mw_clock.proofs.rules.clock_named.Given as goal

-- what the rules so far name
abbrev pub invariant-loop-number : goal.invariant-loop-number
invariant-loop-number l = (length l.named ≡ l.number) × AllZip IsNamed (take l.number (clock_rules l.fn.gears)) l.named
