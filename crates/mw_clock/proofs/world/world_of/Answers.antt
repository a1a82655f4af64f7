use Rattle.std.proofs.Common.{◌+◌, ◌*◌}
use Rattle.mw_rules.proofs.Views.{view_of_can_reach}
use Rattle.mw_clock.specs.Clockwork.{clockwork}
use Rattle.mw_clock.proofs.Accepted.{is_clockwork, kept_so}
use Rattle.mw_clock.proofs.world.world_of.Goals as goal

pub invariant_of-result : goal.invariant_of-result
invariant_of-result c =
    let gears = c.args.gears in
    kept_so (clockwork gears) _ _ _ _ _ _ _ (is_clockwork gears c.requires) c.in_ok-of.ensures c.in_ok-floors.ensures c.in_ok-stairs.ensures c.in_ok-locations.ensures c.in_ok-items.ensures c.in_ok-pool.ensures
    (view_of_can_reach (3 * gears + 1))
