use Rattle.std.proofs.Common.{◌∙◌, ap}
use Rattle.mw_rules.specs.Rule.{has_all}
use Rattle.mw_rules.proofs.Views.{view_of_has_all}
use Rattle.mw_stress.specs.Stress as plain
use Rattle.mw_stress.proofs.Accepted.{is_stress, kept_so}
use Rattle.mw_stress.proofs.world.stress_world.Goals as goal

pub invariant_of-result : goal.invariant_of-result
invariant_of-result c =
    kept_so plain.world _ _ _ _ _ _ _ is_stress c.in_ok-of.ensures c.in_ok-regions.ensures c.in_ok-entrances.ensures c.in_ok-spots.ensures c.in_ok-items.ensures c.in_ok-pool.ensures
    (view_of_has_all _ ∙ ap has_all c.in_ok-wanted.ensures)
