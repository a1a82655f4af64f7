use Rattle.std.proofs.Common.{◌≡◌, ◌++◌, drop, map}
use Rattle.mw_checks.specs.Log.{checks_of}
use Rattle.mw_protocol.specs.Locating.{sends}
use Rattle.mw_effects.specs.Views.{announced_view}
use Rattle.mw_effects.proofs.locating.sends.Given as goal

abbrev pub invariant-loop-pair : goal.invariant-loop-pair
invariant-loop-pair l = map announced_view l.prints ++ sends l.log.seed (checks_of l.member.team (drop l.pair-index l.new)) ≡ sends l.log.seed (checks_of l.member.team l.new)
