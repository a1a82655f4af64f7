use Rattle.std.proofs.Common.{◌≡◌, ◌++◌, drop}
use Rattle.mw_checks.specs.Log.{checks_of}
use Rattle.mw_protocol.specs.Checks.{locations_in}
use Rattle.mw_effects.proofs.news.locations_for_member.Given as goal

abbrev pub invariant-loop-pair : goal.invariant-loop-pair
invariant-loop-pair l =
    l.found ++ locations_in l.member.team l.member.slot (checks_of l.effect.team (drop l.pair-index l.pair-items))
    ≡ locations_in l.member.team l.member.slot (checks_of l.effect.team l.effect.new)
