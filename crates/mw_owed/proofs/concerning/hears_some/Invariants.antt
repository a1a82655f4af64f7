use Rattle.std.proofs.Common.{◌≡◌, drop, map}
use Rattle.mw_effects.specs.Views.{announced_view}
use Rattle.mw_owed.specs.Concerned.{hears_some}
use Rattle.mw_owed.proofs.concerning.hears_some.Given as goal

abbrev pub invariant-loop-telling : goal.invariant-loop-telling
invariant-loop-telling l = hears_some l.seed (map announced_view l.tellings) l.member ≡ hears_some l.seed (map announced_view (drop l.telling-index l.tellings)) l.member
